pub mod Cells
pub mod Lists
pub mod Pairs
pub mod Words
