-- Demand 3: what two terminals that differ only in one partition's passwords have in common.
pub mod Mask
pub mod Veil
pub mod Worlds
pub mod Others
pub mod Runs
pub mod Kept
pub mod SecondHalf
