-- The entries of a record: the test and the relation.
pub mod Entry
pub mod IsEntry
