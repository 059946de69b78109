pub mod Stages
pub mod Reckoning
