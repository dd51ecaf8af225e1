-- Lemmas that proofs of functions share.
mod Bytes
mod Places
