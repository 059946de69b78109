pub mod Listed
pub mod Prices
pub mod Middle
pub mod Minutes
pub mod Facts
pub mod Sound
pub mod Worked
