pub mod Draws
pub mod Tabled
