pub mod Numbers
pub mod Fitting
pub mod Formed
pub mod Whole
pub mod Sessions
