pub mod Lines
pub mod Faults
pub mod Formats
pub mod RowFormats
pub mod Stands
pub mod Reading
pub mod Shapes
