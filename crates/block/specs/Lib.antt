pub mod Depths
pub mod Lanes
pub mod Verdicts
