pub mod Addresses
pub mod States
pub mod Levels
pub mod Ends
pub mod Finding
