pub mod Parts
pub mod View
pub mod Bills
