pub mod Points
pub mod Passing
pub mod Putting
