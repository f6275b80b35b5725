pub mod Judging
pub mod Walk
