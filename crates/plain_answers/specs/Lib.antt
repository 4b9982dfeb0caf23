-- What service 1 does beside data.
pub mod Found
pub mod Failing
pub mod Assigning
pub mod Fitting
pub mod Whole
