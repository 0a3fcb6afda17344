pub mod Calling
pub mod Some
