pub mod Ranges
pub mod Parts
pub mod Reading
pub mod Changes
pub mod Made
