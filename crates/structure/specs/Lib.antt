pub mod Shapes
pub mod SegmentNames
pub mod Listed
pub mod Structures
pub mod Judged
pub mod Engine
pub mod OneWalk
