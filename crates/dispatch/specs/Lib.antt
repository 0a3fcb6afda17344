pub mod OneCall
pub mod SomeBurns
