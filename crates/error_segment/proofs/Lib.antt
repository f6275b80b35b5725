pub mod NumeralLaws
pub mod ErrorLaws
pub mod LocateLaws
pub mod KindLaws
