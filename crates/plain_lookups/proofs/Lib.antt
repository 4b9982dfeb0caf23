pub mod Same
pub mod Words
pub mod Looking
pub mod Alone
pub mod Fields
pub mod Trapped
pub mod Telling
