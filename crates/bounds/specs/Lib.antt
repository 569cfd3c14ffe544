pub mod Bounds
pub mod WidthLaws
