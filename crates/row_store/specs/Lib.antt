pub mod Table
pub mod Stored
pub mod Numbers
pub mod Calls
pub mod Refusals
pub mod Opening
