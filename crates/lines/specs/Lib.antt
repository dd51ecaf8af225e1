-- The lines that the listing program prints, and what it is to write one of them into a row.
pub mod Lines
pub mod Entries
pub mod Wrote
pub mod Laws
