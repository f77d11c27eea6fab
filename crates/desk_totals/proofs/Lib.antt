pub mod Bytes
pub mod MasterCells
pub mod Following
pub mod Few
