pub mod Places
pub mod Entries
pub mod Burns
pub mod Marks
pub mod Down
