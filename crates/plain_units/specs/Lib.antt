-- Units in memory.
pub mod Putting
