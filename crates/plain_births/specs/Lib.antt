-- Activities that are born while a session rests.
pub mod Meeting
pub mod Births
