pub mod BitLaws
pub mod Combinators
pub mod FoldLaws
pub mod GateLaws
pub mod OperatorLaws
pub mod ProductLaws
pub mod ShiftLaws
pub mod SumLaws
