pub mod Number
pub mod Numbered
