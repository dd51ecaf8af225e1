-- The starred points of document 01.
pub mod Desk
pub mod Starred
