pub mod Images
pub mod Reading
pub mod Writing
pub mod Theorem
pub mod Worked
pub mod Answered
