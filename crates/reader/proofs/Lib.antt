pub mod Roots
mod Calls
mod Childless
mod Structs
pub mod Besides
pub mod Entries
pub mod Told
