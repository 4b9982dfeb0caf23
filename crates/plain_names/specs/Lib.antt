-- When names may come behind those of a state.
pub mod Growing
