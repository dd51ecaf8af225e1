-- The terminal: what each call answers and changes.
pub mod Terminal
pub mod Start
pub mod DeviceCalls
pub mod MemoryCalls
pub mod AccountCalls
pub mod StopCalls
pub mod Events
