pub mod Starting
pub mod Shown
