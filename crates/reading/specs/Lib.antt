pub mod Segments
pub mod Reading
pub mod Message
