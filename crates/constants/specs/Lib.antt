-- The numbers of the format by their names in code.
pub mod Table
pub mod Number
pub mod Kinds
