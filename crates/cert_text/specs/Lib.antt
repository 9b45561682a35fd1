pub mod Points
pub mod Kinds
pub mod Spelling
pub mod Tests
pub mod Ladders
pub mod Certs
pub mod Answers
pub mod Written
