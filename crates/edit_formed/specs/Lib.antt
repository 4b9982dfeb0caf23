-- Texts of edits.
pub mod Formed
