pub mod Field
pub mod First
pub mod Polynomial
