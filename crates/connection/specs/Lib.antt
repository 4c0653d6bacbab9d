-- The fresh call table, its step, and the flags by which two equal correlations are found.
pub mod Step
pub mod Flags
pub mod Judge
pub mod Slots
