pub mod Outcome
pub mod Refusals
pub mod Rows
