pub mod Texts
pub mod Refused
pub mod SqlText
pub mod CreateText
pub mod SelectText
pub mod UpsertText
pub mod Referred
pub mod Desk
pub mod Absent
pub mod Rests
pub mod Meaning
pub mod Asked
pub mod Upsert
pub mod Lines
pub mod Numbers
pub mod Found
pub mod Keyed
pub mod Puts
pub mod Made
pub mod Unrefused
pub mod Strays
pub mod Room
pub mod Kept
pub mod Forbidden
mod Halted
mod Opened
