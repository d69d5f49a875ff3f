pub mod Products
pub mod Divisors
pub mod Gammas
pub mod Carrying
pub mod Computed
pub mod Steps
pub mod Lines
