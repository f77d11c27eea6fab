pub mod Keys
pub mod Rows
pub mod Firsts
pub mod Come
