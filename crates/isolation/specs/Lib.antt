pub mod Seen
pub mod Isolation
pub mod Worked
