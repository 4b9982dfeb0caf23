pub mod Activities
pub mod Told
