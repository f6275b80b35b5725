pub mod FigureLaws
pub mod JudgeLaws
pub mod TimeLaws
