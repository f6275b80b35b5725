pub mod Terminal
pub mod Visible
