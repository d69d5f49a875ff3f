pub mod Registers
pub mod Messages
pub mod Zeros
