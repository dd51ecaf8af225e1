-- Rows of records, in document 01's words.
pub mod Records
pub mod WalkLaws
pub mod LikeLaws
pub mod ChangeLaws
pub mod Steps
pub mod StepLaws
