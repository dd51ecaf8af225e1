-- What the crates above say of rows of bytes, each thing once.
pub mod Lists
pub mod Numbers
pub mod PartLaws
pub mod OnPartLaws
pub mod WriteLaws
pub mod LentLaws
pub mod NthLaws
pub mod NumberLaws
pub mod Same
pub mod Search
pub mod Spans
pub mod SpanLaws
