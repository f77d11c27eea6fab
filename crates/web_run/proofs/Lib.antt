pub mod Logging
pub mod Leaving
