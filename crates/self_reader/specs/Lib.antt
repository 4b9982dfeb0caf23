pub mod Reading
pub mod Settling
pub mod Texts
pub mod Turning
