-- The two devices of a partition, and the laws of them.
pub mod Queue
pub mod Screen
pub mod Choice
pub mod QueueLaws
pub mod ScreenLaws
pub mod TransferLaws
