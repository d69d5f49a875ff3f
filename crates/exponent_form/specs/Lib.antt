pub mod ExponentForm
pub mod ExponentLaws
