pub mod Names
pub mod Words
pub mod Bodies
pub mod Depths
