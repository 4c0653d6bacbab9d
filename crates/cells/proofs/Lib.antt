-- Laws of the cells, of the numbers that stand for signed numbers and floats, and of the call table and the tally rows in cells.
pub mod Stores
pub mod Bits
pub mod Tables
pub mod Slots
pub mod Tallies
pub mod RoundTrip
pub mod ScalarTold
pub mod Examples
