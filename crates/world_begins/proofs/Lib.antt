pub mod Alone
pub mod Unnamed
pub mod Firsts
