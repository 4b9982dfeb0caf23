-- Runs of plain code by turns: from one trap to the next.
pub mod Rooms
pub mod Resting
pub mod Asking
pub mod Events
pub mod Turns
pub mod Primitives
pub mod Handlers
