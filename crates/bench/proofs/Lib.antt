-- Lemmas that the measured functions' proofs share.
pub mod Ends
