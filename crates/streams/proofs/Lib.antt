pub mod Joining
pub mod Rooms
