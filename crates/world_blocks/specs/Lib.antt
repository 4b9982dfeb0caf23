pub mod Sessions
pub mod Knowing
pub mod Steps
