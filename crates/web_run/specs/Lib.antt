pub mod Links
pub mod Plans
pub mod Serving
