pub mod Leaves
pub mod Walks
