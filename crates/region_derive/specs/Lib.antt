pub mod Derived
pub mod Seen
