pub mod Owners
pub mod Turns
