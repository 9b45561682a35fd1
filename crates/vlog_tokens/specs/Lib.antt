pub mod Bytes
pub mod Words
pub mod Numbers
pub mod Places
pub mod Tokens
pub mod Gaps
pub mod Reads
pub mod Directives
