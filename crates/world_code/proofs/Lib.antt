pub mod Limited
pub mod Rooms
pub mod Runnable
