pub mod Determined
pub mod Replies
