-- What an accepted edit does while a session rests.
pub mod Heaps
pub mod Edits
pub mod Resting
pub mod Beginning
pub mod Order
