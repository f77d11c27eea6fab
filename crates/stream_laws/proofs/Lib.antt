pub mod Requests
pub mod Published
