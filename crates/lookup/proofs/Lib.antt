pub mod Passed
mod Looked
pub mod OpenedByValues
pub mod ServerZero
pub mod Plain
pub mod Counting
