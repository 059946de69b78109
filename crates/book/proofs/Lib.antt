pub mod Through
pub mod Calls
pub mod Opened
pub mod Asked
pub mod Bills
