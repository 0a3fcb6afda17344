pub mod Precedence
pub mod EndsFront
pub mod Filled
pub mod Orders
pub mod Columns
mod Laying
pub mod Tally
