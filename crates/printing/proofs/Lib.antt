pub mod Printing
pub mod Numbered
