pub mod Bytes
pub mod Columns
pub mod Faults
pub mod Numbers
pub mod Reads
pub mod Settings
pub mod Words
