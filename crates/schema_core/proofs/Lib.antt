pub mod Documents
pub mod Keys
pub mod Strings
pub mod Attributes
pub mod Sound
pub mod Causes
