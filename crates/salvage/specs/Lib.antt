-- Salvage: the pieces of a record, what is copied and listed of them, and covers of a record as a relation.
pub mod Pieces
pub mod Salvaging
pub mod Salvage
pub mod Cover
pub mod Told
