pub mod Choices
pub mod Dissents
