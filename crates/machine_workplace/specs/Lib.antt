pub mod Upshots
pub mod Ready
pub mod Words
