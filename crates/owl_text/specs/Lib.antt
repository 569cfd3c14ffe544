pub mod Levels
pub mod Unique
pub mod Verdict
