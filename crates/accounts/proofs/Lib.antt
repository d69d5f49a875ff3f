pub mod Written
pub mod Tells
