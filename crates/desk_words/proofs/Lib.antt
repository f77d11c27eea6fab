pub mod Changes
pub mod MadeTables
