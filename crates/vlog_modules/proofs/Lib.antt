pub mod Causes
pub mod Once
