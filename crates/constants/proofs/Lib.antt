pub mod Number
pub mod Named
