pub mod Loops
pub mod Nodes
pub mod Orders
pub mod Search
pub mod Settling
pub mod Sweeping
