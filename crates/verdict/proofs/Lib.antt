pub mod VerdictLaws
pub mod OneWalk
pub mod FromOpening
