pub mod Answering
pub mod Handling
