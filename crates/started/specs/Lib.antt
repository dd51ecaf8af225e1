-- An accepted start gives a good world.
pub mod SetUp
pub mod Accepted
pub mod Rows
pub mod Titles
pub mod Plan
pub mod Tested
pub mod Segments
pub mod FirstWorld
pub mod Start
pub mod FromStart
