-- What is proved of every step: the numbers, what a broken write leaves, what no step changes.
pub mod Numbers
pub mod WriteFailure
pub mod Lengths
