-- Lookups over memory.
pub mod Looking
pub mod Telling
