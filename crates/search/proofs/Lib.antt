pub mod Finding
pub mod Searches
