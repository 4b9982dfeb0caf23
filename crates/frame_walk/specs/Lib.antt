-- Frames of a stack, and the activations that they show.
pub mod Places
pub mod Walk
pub mod Raw
