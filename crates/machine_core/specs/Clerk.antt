-- What a clerk writes, one command a file: the tests in their order, and the deed.
pub mod Enter
pub mod Confirm
pub mod Withdraw
pub mod Commit
pub mod Abandon
pub mod Batch
pub mod Carry
