pub mod Level
pub mod Sweep
pub mod ListedLaws
pub mod LevelLaws
pub mod ChildLaws
pub mod SweepLaws
