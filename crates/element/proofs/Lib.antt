pub mod LevelLaws
pub mod StartLaws
pub mod StateLaws
pub mod FindingLaws
pub mod RawLaws
