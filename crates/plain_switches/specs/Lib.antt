-- Activities that are switched while a session rests.
pub mod Switching
pub mod Resting
