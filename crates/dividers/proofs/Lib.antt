pub mod RowProducts
pub mod Masks
pub mod Serial
