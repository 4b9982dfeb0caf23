-- Methods entered in plain code.
pub mod Entering
