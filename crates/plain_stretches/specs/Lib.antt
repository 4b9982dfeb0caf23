-- How plain code goes on from a poll to the next trap.
pub mod Runs
pub mod Polls
pub mod Standing
pub mod Printing
pub mod Stretches
