pub mod Claims
pub mod Laws
pub mod Making
pub mod Naming
pub mod Numbers
pub mod Proving
