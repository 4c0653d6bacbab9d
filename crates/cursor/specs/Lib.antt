-- The items of a payload, and the reader that is lent.
pub mod Number
pub mod Span
pub mod Item
pub mod Lent
pub mod Told
