pub mod Figures
pub mod Records
pub mod Tables
