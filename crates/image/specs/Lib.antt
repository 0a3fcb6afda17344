pub mod Layout
pub mod Encoding
pub mod Decoding
pub mod Promises
pub mod Known
