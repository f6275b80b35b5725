pub mod Verbs
pub mod Samples
