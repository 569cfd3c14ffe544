pub mod OrderedLaws
pub mod NameLaws
pub mod RestLaws
pub mod GroupLaws
pub mod AddLaws
pub mod CountLaws
pub mod NumberLaws
