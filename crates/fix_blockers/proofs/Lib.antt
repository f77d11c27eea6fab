pub mod Adding
pub mod Covered
pub mod LeftSides
pub mod Unmet
pub mod OneBlocker
pub mod Listed
pub mod OneList
pub mod Distinct
