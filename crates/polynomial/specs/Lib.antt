pub mod Coefficients
pub mod Division
pub mod Sums
pub mod Words
pub mod Laws
