pub mod Claims
pub mod Good
pub mod Levels
pub mod Proved
