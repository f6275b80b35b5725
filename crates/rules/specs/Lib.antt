pub mod Rules
pub mod Plain
