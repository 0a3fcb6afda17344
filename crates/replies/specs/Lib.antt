pub mod Refusal
pub mod Reply
