pub mod Columns
pub mod Kept
pub mod Calling
pub mod Lengths
