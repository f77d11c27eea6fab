pub mod Seats
pub mod Made
pub mod Written
pub mod Booked
pub mod Acting
