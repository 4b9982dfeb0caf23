pub mod Stepping
pub mod Commanding
