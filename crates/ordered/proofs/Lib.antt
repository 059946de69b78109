mod Ensured
pub mod Keyed
pub mod Laws
pub mod Lexical
pub mod Placed
pub mod Removed
pub mod Rising
pub mod Sought
