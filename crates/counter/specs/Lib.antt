pub mod Objected
pub mod Told
