pub mod Ladders
pub mod Refuted
pub mod Whole
