pub mod Grown
pub mod Inverse
pub mod Renamed
pub mod Whole
pub mod Names
