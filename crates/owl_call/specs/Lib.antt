pub mod Call
pub mod Unique
