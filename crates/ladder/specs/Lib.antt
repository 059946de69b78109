pub mod Ladder
pub mod Offered
pub mod Sides
pub mod Standing
