pub mod Ends
pub mod Parted
pub mod Reading
