-- Worlds over which a session may begin.
pub mod Ready
