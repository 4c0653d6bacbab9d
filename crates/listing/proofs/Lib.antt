pub mod Turns
pub mod Examples
pub mod Kept
pub mod Indexed
