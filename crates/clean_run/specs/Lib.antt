pub mod Files
pub mod Held
pub mod Words
pub mod Parts
pub mod Prepared
pub mod Statuses
pub mod Cleaned
