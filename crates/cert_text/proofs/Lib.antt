pub mod Inputs
pub mod Names
pub mod PointLaws
pub mod BitLaws
pub mod KindLaws
mod SetupLines
pub mod Decimals
pub mod SomeWords
pub mod LemmaLaws
pub mod ProofLaws
pub mod ProofLoop
pub mod LadderLaws
pub mod Blocks
pub mod Whole
pub mod Writing
pub mod Lined
