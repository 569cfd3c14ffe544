pub mod Handed
pub mod HandedLaws
