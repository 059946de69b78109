pub mod Looked
pub mod Taken
