pub mod Spawning
pub mod Parking
pub mod Filled
pub mod Hosting
pub mod Free
pub mod Initials
pub mod Starting
