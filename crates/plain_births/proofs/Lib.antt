pub mod Units
pub mod Meeting
pub mod Beginning
pub mod Flushing
