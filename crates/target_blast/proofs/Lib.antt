pub mod Digits
pub mod Others
pub mod Steps
pub mod WriteLaws
