mod Counts
pub mod Extremes
mod Found
mod Invariant
pub mod Keeps
mod Put
mod Taken
pub mod Stands
