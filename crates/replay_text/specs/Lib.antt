-- The parts of a replay text, in the words of docs/REPLAY.md.
pub mod Words
pub mod Hex
pub mod Letters
pub mod Shown
pub mod Arguments
pub mod RowLaws
pub mod HexLaws
pub mod ShownLaws
pub mod LetterLaws
pub mod WordLaws
pub mod ArgumentLaws
pub mod Laws
pub mod Examples
