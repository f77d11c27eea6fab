pub mod SubLists
pub mod Reasons
pub mod Uses
pub mod Marks
