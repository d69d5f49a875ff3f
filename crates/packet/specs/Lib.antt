pub mod Packets
pub mod Faults
pub mod Reading
pub mod Items
pub mod Laws
