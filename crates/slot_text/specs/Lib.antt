pub mod Contents
pub mod Telling
