-- Readers, and tests in a row.
pub mod Reader
pub mod Test
