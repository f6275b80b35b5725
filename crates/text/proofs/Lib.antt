pub mod SequenceLaws
pub mod OutcomeLaws
pub mod StepLaws
pub mod RunLaws
