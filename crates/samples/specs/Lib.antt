pub mod Table
pub mod Formatted
