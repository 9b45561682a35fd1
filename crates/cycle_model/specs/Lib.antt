pub mod Flags
pub mod Clocking
pub mod Machine
pub mod Replay
