pub mod Regions
pub mod Words
pub mod Frame
pub mod Windows
pub mod Chain
pub mod Flat
pub mod Ring
