pub mod Kind
pub mod Keyword
pub mod Run
