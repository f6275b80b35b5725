pub mod Sheet
pub mod Pages
pub mod Going
pub mod Runs
pub mod Formatting
pub mod Laying
