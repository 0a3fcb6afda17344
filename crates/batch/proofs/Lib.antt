mod Batches
mod BatchParts
pub mod Counting
