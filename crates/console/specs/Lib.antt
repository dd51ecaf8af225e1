-- The calls on a partition's two devices, and the halt notice.
pub mod DeviceChecks
pub mod Console
pub mod Halt
pub mod ConsoleLaws
pub mod Transfers
