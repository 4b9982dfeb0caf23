pub mod Words
pub mod Commands
pub mod Scripts
pub mod Edits
pub mod Telling
pub mod Values
pub mod Frames
pub mod LineTexts
