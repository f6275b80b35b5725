pub mod Escape
pub mod Outcomes
