pub mod ExprLaws
pub mod Forms
pub mod Growing
pub mod Loops
pub mod Numbers
pub mod OperatorWords
pub mod Selects
pub mod Variants
