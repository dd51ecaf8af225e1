-- Steps and runs of a terminal.
pub mod World
