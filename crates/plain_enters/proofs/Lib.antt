pub mod Filling
pub mod Rooms
