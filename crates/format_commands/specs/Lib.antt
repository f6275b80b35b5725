pub mod Commands
pub mod Items
