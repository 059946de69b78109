mod Wide
mod Summed
mod Paid
pub mod Exact
