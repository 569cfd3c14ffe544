pub mod Report
pub mod ReportLaws
pub mod Examples
