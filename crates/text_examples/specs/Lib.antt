-- Points of the set-up text proved by computation. A crate of its own, since every must-fail edit checks its crate anew.
pub mod Points
