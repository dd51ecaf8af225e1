-- What the demands say of a terminal, as theorems about steps and runs.
pub mod Refusals
pub mod Numbers
pub mod WriteFailure
pub mod Lengths
