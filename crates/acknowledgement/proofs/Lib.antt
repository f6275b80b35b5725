pub mod FieldLaws
pub mod HeaderLaws
pub mod PieceLaws
pub mod AnswerLaws
