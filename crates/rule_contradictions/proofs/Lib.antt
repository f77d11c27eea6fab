pub mod Agreeing
pub mod Told
pub mod Sorting
pub mod Least
pub mod Keys
pub mod Lists
