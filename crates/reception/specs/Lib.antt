pub mod Faults
pub mod Messages
pub mod Reception
pub mod Laws
