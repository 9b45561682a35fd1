pub mod Lifted
pub mod Marks
pub mod Pass
pub mod Smaller
