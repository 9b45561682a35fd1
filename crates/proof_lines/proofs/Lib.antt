mod Front
mod Leftover
pub mod LineLaws
mod Spaces
mod TextLaws
