pub mod Passing
pub mod Around
pub mod Once
pub mod Texts
pub mod Tells
pub mod Parts
pub mod Copying
