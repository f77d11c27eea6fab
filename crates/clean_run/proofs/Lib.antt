pub mod Sheets
pub mod Places
pub mod Settings
pub mod Masters
pub mod Written
