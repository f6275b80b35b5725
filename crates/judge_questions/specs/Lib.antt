pub mod Verbs
pub mod Readings
pub mod Samples
