pub mod Sheets
pub mod Whole
pub mod Places
pub mod Front
pub mod Kept
pub mod Standing
