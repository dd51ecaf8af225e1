-- What the programs over a terminal begin with.
pub mod Given
