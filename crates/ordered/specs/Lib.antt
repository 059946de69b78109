pub mod Lex
pub mod Listed
pub mod Order
