pub mod SiteLists
pub mod Driving
pub mod Owning
pub mod Inverses
pub mod StatementForms
mod BodyForms
pub mod Counts
pub mod SiteCounts
pub mod OneDesign
pub mod Rooms
pub mod Turns
pub mod Ports
pub mod Listed
pub mod NetNames
pub mod Assembly
pub mod Assigning
pub mod NetBits
mod FineBodies
pub mod LegalDesigns
pub mod BitNames
