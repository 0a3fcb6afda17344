pub mod Search
pub mod Opened
