pub mod Layout
pub mod Kinds
pub mod Images
pub mod Built
pub mod Steps
pub mod Stands
pub mod Heaps
