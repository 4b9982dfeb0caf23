pub mod State
pub mod Initials
pub mod Names
pub mod Objects
pub mod First
pub mod Read
