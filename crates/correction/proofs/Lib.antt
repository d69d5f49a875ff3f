mod Rows
mod Quotients
mod Extending
mod Places
mod Endings
mod Room
