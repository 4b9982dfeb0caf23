pub mod Balance
pub mod Counts
pub mod Grammar
pub mod Parts
pub mod Refusal
pub mod Scopes
pub mod Spelling
