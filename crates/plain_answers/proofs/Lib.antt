pub mod Founds
pub mod Failing
pub mod Storing
pub mod Assigning
pub mod Fitting
pub mod Whole
