-- Laws that belong to no one function.
mod Bits
mod Rotations
mod Rows
mod Blocks
mod Quarters
mod Joined
