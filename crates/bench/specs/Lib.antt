-- What the measured functions answer and leave behind.
pub mod Turns
pub mod Scene
pub mod Steps
