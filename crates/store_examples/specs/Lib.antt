-- Small images, good and damaged, by computation. A crate of its own, since every must-fail edit checks its crate anew.
pub mod Images
