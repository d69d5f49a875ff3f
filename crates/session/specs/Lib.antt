pub mod Objections
pub mod Sessions
