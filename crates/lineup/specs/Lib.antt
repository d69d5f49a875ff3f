pub mod Plans
pub mod Kinds
pub mod Built
