pub mod AskedLaws
pub mod FoundLaws
