pub mod NamesLemmas
pub mod LocalLemmas
