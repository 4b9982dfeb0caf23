pub mod WordLists
pub mod Walking
pub mod Flushing
pub mod Shows
pub mod Agreeing
pub mod Kept
