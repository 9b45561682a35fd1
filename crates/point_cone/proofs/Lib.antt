pub mod Made
pub mod Naming
pub mod Reaching
pub mod Whole
