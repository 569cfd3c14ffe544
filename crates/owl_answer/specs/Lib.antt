pub mod Owl
pub mod OwlLaws
pub mod Instances
