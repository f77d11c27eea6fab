pub mod Time
pub mod Tcp
pub mod Turns
