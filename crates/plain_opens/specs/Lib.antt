-- Worlds that were opened.
pub mod Opens
