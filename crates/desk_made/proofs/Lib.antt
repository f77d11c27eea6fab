pub mod Drawing
pub mod Masters
pub mod Numbers
pub mod Ranges
pub mod Schemas
pub mod Rulebooks
