-- Answers handed back.
pub mod RunLaws
pub mod ReturnLaws
pub mod WindingAgainLaws
