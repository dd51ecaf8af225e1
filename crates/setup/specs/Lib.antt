-- The set-up that a text describes, and the refusals on the way.
pub mod Setup
pub mod Rules
pub mod Outcomes
pub mod Reading
pub mod Views
pub mod Values
pub mod Turns
