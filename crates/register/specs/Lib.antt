pub mod Arrivals
pub mod Registered
pub mod Totals
