pub mod Embed
pub mod Sequence
