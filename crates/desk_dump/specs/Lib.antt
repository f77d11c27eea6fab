pub mod Fields
pub mod Dumps
pub mod Writing
