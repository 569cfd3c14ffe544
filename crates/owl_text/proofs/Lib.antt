pub mod LevelLaws
pub mod TableLaws
pub mod StepLaws
pub mod BlockLaws
