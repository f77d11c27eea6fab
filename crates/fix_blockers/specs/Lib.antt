pub mod Blockers
pub mod Blocked
