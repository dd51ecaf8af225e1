-- Small cases of the device calls and of the halt notice, proved by computation. A crate of its own, since every must-fail edit checks its
-- crate anew.
pub mod Opened
pub mod Order
pub mod Moves
pub mod Notice
