pub mod Settling
pub mod Behind
pub mod Resumming
pub mod Serving
pub mod Sending
pub mod Founds
pub mod Messages
