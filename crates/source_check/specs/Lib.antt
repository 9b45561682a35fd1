pub mod Legal
pub mod Ladders
pub mod Places
pub mod Judging
pub mod Faults
pub mod Checking
