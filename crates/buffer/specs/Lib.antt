-- Spans of a slice, and what it holds after stores.
pub mod Span
pub mod Store
