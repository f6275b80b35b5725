pub mod Two
pub mod Words
