pub mod Schemas
pub mod Reading
pub mod Causes
