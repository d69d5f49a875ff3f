pub mod Applied
pub mod Recurrence
pub mod Located
pub mod Correction
pub mod Erasures
pub mod Claims
