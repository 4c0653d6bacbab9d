-- The run of a record: its entries one after the other from the fresh call table, as a list with no text in it.
pub mod Run
pub mod Runs
pub mod Lent
