-- The definitions that the reader's and the writer's walks share.
pub mod Shape
pub mod Siphash
pub mod Keys
pub mod Required
pub mod Sink
