pub mod BelowCount
pub mod Counters
pub mod Small
pub mod Once
pub mod Lowest
pub mod Tags
