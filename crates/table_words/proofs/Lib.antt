pub mod Lent
pub mod Read
