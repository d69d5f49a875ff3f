pub mod Choices
pub mod Dividers
pub mod Rows
pub mod RowsLemmas
