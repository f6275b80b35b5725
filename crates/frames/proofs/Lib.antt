pub mod ModeLaws
pub mod StepLaws
pub mod FeedLaws
pub mod RunLaws
pub mod PassLaws
pub mod KnownLaws
