pub mod Verdicts
pub mod Walk
