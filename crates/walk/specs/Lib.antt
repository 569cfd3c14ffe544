pub mod Step
pub mod StepLaws
pub mod GivenLaws
pub mod SweptLaws
pub mod RunLaws
pub mod WalkLaws
