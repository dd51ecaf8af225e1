-- The set-up text byte by byte (Bytes, Gaps, Comments, Tokens), and what follows from it for the levels above.
pub mod Bytes
pub mod Gaps
pub mod Comments
pub mod Tokens
pub mod Steps
pub mod GapLaws
pub mod RunLaws
pub mod Answers
pub mod Sound
pub mod CommentLaws
pub mod BlankedLaws
