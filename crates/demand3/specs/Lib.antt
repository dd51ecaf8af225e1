-- Demand 3, from start.
pub mod Images
pub mod ImageLaws
pub mod LikeImages
pub mod Verdicts
pub mod Answers
pub mod Joined
pub mod Masked
pub mod Starts
pub mod Runs
pub mod Demand3
