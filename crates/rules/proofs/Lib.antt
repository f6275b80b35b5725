pub mod RuleLaws
pub mod PlainLaws
pub mod PlainRowLaws
