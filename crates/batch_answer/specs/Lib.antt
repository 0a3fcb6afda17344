pub mod Answer
pub mod Ends
