pub mod Lists
pub mod Cutting
pub mod Pairs
pub mod Digits
pub mod Verbs
