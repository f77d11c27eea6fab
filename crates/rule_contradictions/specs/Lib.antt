pub mod Contradictions
pub mod Gathered
