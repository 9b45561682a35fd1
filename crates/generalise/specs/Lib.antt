pub mod Cubes
pub mod Effort
pub mod Frames
pub mod Lifting
pub mod Parts
