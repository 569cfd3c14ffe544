pub mod PutLaws
pub mod SpellLaws
