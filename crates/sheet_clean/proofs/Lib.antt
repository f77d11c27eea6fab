pub mod Places
pub mod Laid
pub mod Lines
pub mod Decisions
