-- The index of a record and the look-up of one call in it.
pub mod Row
pub mod Indexing
pub mod Finding
pub mod Index
pub mod IsIndex
pub mod Text
pub mod LookUp
pub mod Claims
pub mod Inserted
pub mod Told
