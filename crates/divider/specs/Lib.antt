pub mod Registers
pub mod Claims
