pub mod FewTexts
pub mod Endings
pub mod Columns
pub mod Stars
pub mod Placed
