-- What frames in words show of activations.
pub mod Listed
pub mod Showing
pub mod Standing
