pub mod Entries
pub mod InTurn
pub mod Examples
pub mod Kept
