pub mod Replaying
pub mod Lent
