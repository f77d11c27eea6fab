pub mod Bodies
pub mod Written
pub mod Listed
pub mod Whole
