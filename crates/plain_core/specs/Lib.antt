-- A session in plain code.
pub mod Language
pub mod Turning
pub mod Handing
pub mod Running
pub mod Spawning
pub mod Leading
pub mod Finishing
