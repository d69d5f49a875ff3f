pub mod Words
pub mod Weaving
pub mod Reading
pub mod Results
pub mod Forms
pub mod Remainders
