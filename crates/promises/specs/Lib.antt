pub mod Elements
pub mod Acknowledgements
pub mod Structures
pub mod Values
pub mod Texts
pub mod ForC
