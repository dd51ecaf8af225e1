-- What is proved behind the mask: each step first, then two runs.
pub mod Veil
pub mod Worlds
pub mod Devices
pub mod Stops
pub mod Memory
pub mod Database
pub mod Others
pub mod Commute
pub mod Own
pub mod Runs
pub mod Kept
pub mod SecondHalf
pub mod Seen
