pub mod Acknowledgement
pub mod Fields
pub mod Pieces
