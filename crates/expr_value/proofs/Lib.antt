pub mod Listing
pub mod Copies
pub mod Loops
pub mod Writing
