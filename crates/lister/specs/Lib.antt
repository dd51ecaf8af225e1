-- The listing program's answer to every input.
pub mod Listing
pub mod Outcomes
pub mod Kinds
pub mod Laws
