pub mod Draws
pub mod Requests
pub mod Schema
pub mod Master
pub mod Rulebook
pub mod Sessions
pub mod Made
