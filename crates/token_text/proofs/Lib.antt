pub mod Writing
pub mod Solid
pub mod Openings
pub mod Dividing
