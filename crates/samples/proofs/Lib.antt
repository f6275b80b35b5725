pub mod TableTest
pub mod Structures
pub mod AllHold
pub mod FormattedHold
