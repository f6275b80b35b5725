pub mod NearLaws
pub mod WordLaws
mod AmongLaws
