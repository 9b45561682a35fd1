pub mod Back
pub mod Laws
pub mod Naming
pub mod Parts
pub mod Reaching
pub mod Small
