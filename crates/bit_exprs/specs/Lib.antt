pub mod Operators
pub mod Values
pub mod Indices
pub mod Formed
pub mod Cost
pub mod Updates
pub mod Named
