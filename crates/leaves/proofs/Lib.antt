pub mod LevelLaws
pub mod RestLaws
pub mod MarkLaws
pub mod RowLaws
pub mod TurnLaws
pub mod HeaderLaws
pub mod CountLaws
pub mod ListLaws
