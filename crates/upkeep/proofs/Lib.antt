pub mod Upkeep
pub mod KeptSound
pub mod KeptAgreeing
mod Raising
