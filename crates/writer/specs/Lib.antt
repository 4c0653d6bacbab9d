-- The writer in code: how bytes are put into the output, what its leaves and walkers answer, and what its entries answer.
pub mod Emit
pub mod Leaf
pub mod Walk
pub mod Writing
pub mod Told
pub mod Entry
pub mod Numbers
