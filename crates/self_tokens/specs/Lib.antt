pub mod Classes
pub mod Forms
pub mod Kinds
pub mod Texts
pub mod Tokens
