pub mod RunLaws
pub mod KeywordLaws
pub mod TokenAtLaws
