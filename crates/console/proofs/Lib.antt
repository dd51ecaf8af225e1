-- Lemmas.
pub mod Devices
