pub mod Around
pub mod RowLemmas
pub mod TextLemmas
pub mod TellLemmas
pub mod Few
