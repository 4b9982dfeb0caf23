pub mod Filling
mod Outs
pub mod Walking
pub mod Parked
