pub mod Counted
pub mod Floats
