pub mod Worths
pub mod Spelled
pub mod Short
