pub mod Fixed
pub mod Resting
pub mod Counting
