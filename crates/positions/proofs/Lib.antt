pub mod Placed
pub mod Complete
