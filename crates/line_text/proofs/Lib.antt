pub mod Cutting
pub mod Laws
pub mod Loop
pub mod Numerals
pub mod Words
pub mod Whole
pub mod Choices
