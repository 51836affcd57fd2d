pub mod Tabs
pub mod Steps
pub mod Lawful
pub mod Samples
pub mod Spans
pub mod ByKind
