pub mod Judged
pub mod Times
