pub mod Spans
pub mod Stores
