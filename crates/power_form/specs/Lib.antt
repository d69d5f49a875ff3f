pub mod Arithmetic
pub mod Chain
pub mod PowerForm
pub mod PowerLaws
pub mod Bounds
pub mod ByteLaws
pub mod Linear
pub mod Products
