pub mod Hex
pub mod Sending
