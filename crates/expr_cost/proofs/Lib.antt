pub mod CostLaws
pub mod Equations
pub mod Weights
