-- The three statements of the set-up text.
pub mod Statements
pub mod Rows
pub mod Kinds
pub mod Sound
