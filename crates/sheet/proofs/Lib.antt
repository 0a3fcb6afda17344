pub mod Sheets
pub mod Alike
pub mod Lines
