pub mod Months
pub mod Sundays
pub mod DayTests
pub mod Years
pub mod ClockLaw
pub mod Turns
pub mod StampLaw
pub mod Replies
