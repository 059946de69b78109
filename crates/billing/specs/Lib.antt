pub mod Capped
pub mod Booked
