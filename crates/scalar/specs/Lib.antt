-- A row over its bytes as a scalar value.
pub mod Answer
pub mod Told
pub mod Scalar
pub mod Leaves
pub mod Range
pub mod Reasons
