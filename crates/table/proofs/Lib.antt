pub mod Soundness
pub mod Testing
pub mod Agreement
