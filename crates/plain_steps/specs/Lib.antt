-- Plain code against the source.
pub mod Steps
pub mod Paying
