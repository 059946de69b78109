pub mod Counting
pub mod Laid
pub mod Laws
pub mod Laying
pub mod Text
