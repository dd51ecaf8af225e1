-- Lemmas that proofs of functions use.
mod Told
