pub mod Named
pub mod Mapped
pub mod Known
pub mod Adding
