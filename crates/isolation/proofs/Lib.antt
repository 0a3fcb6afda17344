mod LiveOn
mod View
mod Entering
mod Hearing
mod Counting
pub mod Theorem
pub mod Worked
