-- What a terminal is.
pub mod Empty
pub mod Devices
pub mod Parts
pub mod PartsLaws
