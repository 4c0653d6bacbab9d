-- What is read without recursion, in code: the sheet, what leaves and walkers answer, and the types that are flat.
pub mod Sheet
pub mod Count
pub mod Span
pub mod Head
pub mod InnerHead
pub mod Leaf
pub mod Walk
pub mod Flat
pub mod Told
