-- Start of a terminal.
pub mod Each
pub mod EachLaws
pub mod Files
pub mod FilesLaws
pub mod Planned
pub mod PlannedLaws
pub mod Filled
pub mod FilledLaws
pub mod Start
pub mod JudgeLaws
pub mod StartLaws
