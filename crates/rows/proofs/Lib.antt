pub mod Accepted
pub mod Checked
