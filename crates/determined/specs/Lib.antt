-- What a contract allows is one result.
pub mod Determined
pub mod TerminalCalls
pub mod BeginCalls
pub mod GuardCalls
pub mod ConsoleCalls
pub mod MemoryCalls
pub mod DatabaseCalls
pub mod AccountsCalls
pub mod StateCalls
pub mod SetupCalls
pub mod ListerCalls
