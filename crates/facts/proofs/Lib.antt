mod Extremes
mod Setting
mod Members
mod Swings
mod Courses
mod Halves
mod Ladders
mod Regularity
mod Together
mod Rows
mod Alone
pub mod Reckoned
