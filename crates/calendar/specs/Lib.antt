pub mod Dates
pub mod Clock
pub mod Stamps
pub mod Kinds
pub mod Printed
pub mod Worked
