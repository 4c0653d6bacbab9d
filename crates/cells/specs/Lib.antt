-- What is stored in lent cells, and the call table, the tally rows and scalars in cells.
pub mod Cells
pub mod Records
pub mod Kept
pub mod Scalars
