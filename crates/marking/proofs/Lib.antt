mod Runs
mod Marked
mod Done
