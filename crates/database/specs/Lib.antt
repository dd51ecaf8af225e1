-- The configuration database.
pub mod Database
pub mod Row
pub mod DatabaseLaws
pub mod LaidLaws
