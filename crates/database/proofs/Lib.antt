-- What the tactics are handed.
pub mod RowRules
