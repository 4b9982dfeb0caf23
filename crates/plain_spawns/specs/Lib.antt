-- Activities that begin with an activation that has a context.
pub mod Spawns
