pub mod SideLaws
pub mod LineLaws
