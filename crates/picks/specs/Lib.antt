pub mod Picks
pub mod Limited
