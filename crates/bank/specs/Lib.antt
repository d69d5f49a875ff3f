pub mod Lanes
pub mod Claims
pub mod Beside
pub mod Kept
