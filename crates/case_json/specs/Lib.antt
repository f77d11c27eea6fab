pub mod Attributes
pub mod Rules
pub mod Masters
pub mod Records
pub mod Kits
pub mod Cases
pub mod Answer
pub mod Pointers
