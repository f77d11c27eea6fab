pub mod Telling
pub mod Steps
pub mod Causes
pub mod Keeping
pub mod Files
pub mod Leaving
