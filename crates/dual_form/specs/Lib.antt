pub mod Dual
pub mod DualForm
pub mod DualBasis
pub mod DualLaws
pub mod Bytes
