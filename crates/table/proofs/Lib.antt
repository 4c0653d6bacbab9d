pub mod Files
pub mod Lowest
pub mod Checks
pub mod Products
pub mod Flags
pub mod Extensions
pub mod Told
