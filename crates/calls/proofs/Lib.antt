pub mod Lanes
pub mod NoCalls
