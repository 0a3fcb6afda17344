pub mod Replay
pub mod Lent
