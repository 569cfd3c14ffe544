pub mod Span
pub mod SpanLaws
