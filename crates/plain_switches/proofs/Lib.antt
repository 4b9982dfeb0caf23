pub mod Coming
pub mod Switching
