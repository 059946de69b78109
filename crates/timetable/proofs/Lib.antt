pub mod Rows
pub mod Starts
pub mod Days
pub mod Bounded
