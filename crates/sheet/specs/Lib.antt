pub mod Sheet
pub mod Example
