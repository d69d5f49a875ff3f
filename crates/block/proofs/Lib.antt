pub mod Arrays
pub mod Places
pub mod Found
