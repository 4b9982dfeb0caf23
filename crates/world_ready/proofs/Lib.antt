pub mod Names
pub mod Counted
pub mod Rooms
