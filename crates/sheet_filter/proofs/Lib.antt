pub mod Texts
pub mod Rows
pub mod Drafting
pub mod Blocks
pub mod Flushing
pub mod Underway
