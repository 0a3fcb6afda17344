pub mod Accepted
pub mod Whole
mod NewEntry
mod Done
