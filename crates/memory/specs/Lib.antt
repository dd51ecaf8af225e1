-- Memory of a partition: its right to a segment, load, store and flush.
pub mod Rights
pub mod Memory
pub mod MemoryLaws
