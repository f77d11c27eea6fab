pub mod Keys
pub mod Reading
pub mod Values
pub mod Written
