pub mod Code
pub mod Claims
