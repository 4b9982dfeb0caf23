pub mod NumberLaws
pub mod SignLaws
