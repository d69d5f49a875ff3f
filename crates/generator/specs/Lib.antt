pub mod Generator
pub mod Claims
pub mod Forms
pub mod Text
