pub mod Nets
pub mod Bodies
pub mod Assigned
pub mod Driven
pub mod Designs
pub mod Owners
