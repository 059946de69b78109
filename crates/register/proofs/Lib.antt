pub mod Running
pub mod Numbered
