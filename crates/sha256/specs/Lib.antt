-- FIPS 180-4, SHA-256, section by section and in its own names, for messages of whole bytes: Words to Digest.
-- Window and Marked say how the code holds the schedule and reads the last blocks; Laws, that this changes no digest.
pub mod Words
pub mod Functions
pub mod Constants
pub mod Padding
pub mod Compression
pub mod Digest
pub mod Window
pub mod Marked
pub mod Laws
