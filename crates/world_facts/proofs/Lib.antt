pub mod WordCounts
pub mod TextLens
pub mod SmallSigns
pub mod Modest
pub mod Facts
