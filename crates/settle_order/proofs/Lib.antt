pub mod Chains
pub mod Flags
pub mod Lists
pub mod Placing
pub mod Searching
pub mod Tables
pub mod Watching
