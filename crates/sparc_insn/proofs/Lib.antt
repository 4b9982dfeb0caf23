pub mod Fields
pub mod OneWord
pub mod RoundTrip
