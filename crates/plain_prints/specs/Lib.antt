-- The lines that primitives print.
pub mod Printing
pub mod Lines
