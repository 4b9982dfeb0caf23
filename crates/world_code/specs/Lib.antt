-- The bodies of accepted worlds.
pub mod Limited
