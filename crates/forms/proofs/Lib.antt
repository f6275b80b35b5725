pub mod FormLaws
pub mod PlaceLaws
