pub mod Input
pub mod Once
pub mod Status
