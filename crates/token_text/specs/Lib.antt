pub mod Printing
pub mod Again
