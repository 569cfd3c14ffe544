pub mod Under
pub mod UnderLaws
