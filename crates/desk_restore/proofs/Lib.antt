pub mod PlainValues
pub mod Puts
pub mod Told
pub mod Following
pub mod Making
pub mod Refusing
