pub mod Holds
pub mod Going
pub mod SlotLemmas
pub mod Marks
pub mod Frames
pub mod Steps
pub mod Answering
