pub mod Energy
pub mod Order
pub mod Figures
pub mod Words
