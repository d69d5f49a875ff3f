pub mod Blanks
pub mod Decimals
pub mod Digits
pub mod Exits
pub mod Filters
pub mod Settings
pub mod Verbs
