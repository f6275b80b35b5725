pub mod CursorLaws
pub mod FieldLaws
pub mod JudgeLaws
pub mod PlainLaws
