pub mod Window
pub mod WindowLaws
pub mod Spelling
pub mod SpellingLaws
pub mod Given
pub mod Step
pub mod Penned
pub mod PennedLaws
