pub mod Numerals
pub mod Errors
pub mod Pieces
