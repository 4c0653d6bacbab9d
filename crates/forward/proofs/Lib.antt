pub mod Laws
pub mod Statements
pub mod Entries
pub mod Examples
