pub mod Ring
pub mod Carried
pub mod Firsts
pub mod Horner
pub mod Roots
