pub mod Said
pub mod Spells
pub mod Fits
pub mod Begins
