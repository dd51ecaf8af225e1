-- Points of document 01 about the set-up text, computed. A crate of its own, since computing takes seconds.
pub mod Points
