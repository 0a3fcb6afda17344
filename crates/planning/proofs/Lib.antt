mod EntryRows
pub mod Passed
