pub mod Reading
mod Counting
