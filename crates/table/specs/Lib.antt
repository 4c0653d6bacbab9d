-- The flags by which equal entries are found.
pub mod Flags
pub mod Told
pub mod Search
