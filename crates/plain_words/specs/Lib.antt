-- The words of plain code.
pub mod Code
pub mod Going
pub mod Moves
pub mod Showing
pub mod Units
pub mod Translating
pub mod Putting
