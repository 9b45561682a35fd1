pub mod Blocks
pub mod Steps
pub mod Sites
pub mod Whole
pub mod Hits
