pub mod Prices
pub mod Span
pub mod Opening
pub mod View
pub mod Bounds
