pub mod Moving
pub mod Stored
