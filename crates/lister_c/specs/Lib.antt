-- What the listing answers to C.
pub mod Counted
