pub mod Unescape
pub mod Judging
pub mod Reads
