pub mod Cut
pub mod Fields
pub mod Head
pub mod Lines
pub mod Looks
pub mod Numbers
pub mod Routes
pub mod Taking
