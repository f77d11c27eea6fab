-- What a valid row of each table is.
pub mod Clerk
pub mod Schema
pub mod Master
pub mod Rulebook
pub mod Edition
pub mod Region
pub mod Session
pub mod Record
pub mod Batch
