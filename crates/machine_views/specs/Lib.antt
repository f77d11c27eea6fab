pub mod Answered
pub mod Counts
pub mod Doing
pub mod Looking
pub mod Naming
pub mod Reporting
