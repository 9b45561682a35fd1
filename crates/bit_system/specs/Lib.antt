pub mod Accepted
pub mod Cones
pub mod Ladders
pub mod Machine
pub mod ProofLines
pub mod Queries
