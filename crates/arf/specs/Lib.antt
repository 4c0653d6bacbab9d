-- The numbers that the answers stand for.
pub mod Numbers
