pub mod Next
pub mod Receive
