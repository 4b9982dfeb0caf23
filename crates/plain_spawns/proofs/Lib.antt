pub mod Spawning
pub mod Resting
pub mod Filled
pub mod Hosting
pub mod Starting
