-- What every world of a run keeps.
pub mod Good
pub mod Partitions
pub mod Changes
pub mod Attention
pub mod DeviceMoves
pub mod AccountMoves
pub mod StoreChanges
pub mod MemoryMoves
pub mod PasswordMoves
pub mod Steps
pub mod Numbers
pub mod NeverBad
pub mod Stays
pub mod Runs
