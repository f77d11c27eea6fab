pub mod Lefts
pub mod Outputs
