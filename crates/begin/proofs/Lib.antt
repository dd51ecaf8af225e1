-- Lemmas of the proofs.
pub mod Made
