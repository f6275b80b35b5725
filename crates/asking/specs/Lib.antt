pub mod Words
pub mod Lines
pub mod Hex
pub mod Decimals
pub mod Messages
pub mod Samples
