-- How long a listing can be.
pub mod Paths
pub mod Bound
