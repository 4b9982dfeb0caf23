-- Plain code under its host.
pub mod Host
pub mod Units
pub mod Sound
pub mod Services
pub mod Course
