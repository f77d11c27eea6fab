pub mod Outputs
pub mod Ends
pub mod Cleaning
