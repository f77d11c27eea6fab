pub mod Report
pub mod Records
pub mod Derived
pub mod Contradictions
pub mod Writing
