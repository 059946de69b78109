pub mod Entries
pub mod Exact
