pub mod SegmentLaws
pub mod Accepted
pub mod Honest
