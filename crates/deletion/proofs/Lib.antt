pub mod Done
pub mod Whole
