pub mod Records
pub mod Cuts
pub mod Fronts
pub mod Standings
