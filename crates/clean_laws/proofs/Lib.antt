pub mod CleanRows
