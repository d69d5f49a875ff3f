pub mod Assembled
pub mod Parts
pub mod Rows
pub mod Texts
