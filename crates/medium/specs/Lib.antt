pub mod Word
pub mod Entry
pub mod Burn
