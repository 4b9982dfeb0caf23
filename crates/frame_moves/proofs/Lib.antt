pub mod Listed
pub mod Spared
pub mod Moving
