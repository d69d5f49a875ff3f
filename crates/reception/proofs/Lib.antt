pub mod Totals
pub mod Lanes
pub mod Messages
pub mod One
pub mod Restored
pub mod Agreed
