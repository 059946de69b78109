pub mod Hour
pub mod Payments
pub mod HourLaws
pub mod Bounds
pub mod Bills
