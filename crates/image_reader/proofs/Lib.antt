pub mod Refused
pub mod Tagged
