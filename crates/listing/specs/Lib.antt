-- The listing of a record, as text: the lines, the whole; and the same by a list of entries.
pub mod Text
pub mod Listing
pub mod Lines
