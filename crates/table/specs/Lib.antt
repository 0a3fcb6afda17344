pub mod Parts
pub mod Sound
pub mod Agree
