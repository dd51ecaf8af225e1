-- Small cases of the devices, proved by computation. A crate of its own, since every must-fail edit checks its crate anew.
pub mod Puts
pub mod Moves
pub mod Keys
