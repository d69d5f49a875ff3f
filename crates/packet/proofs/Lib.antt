pub mod Steps
pub mod Items
pub mod Back
pub mod Only
