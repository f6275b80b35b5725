pub mod PieceLaws
pub mod OutcomeLaws
pub mod RunLaws
