pub mod Tells
pub mod Further
