pub mod Numbers
pub mod Varuints
pub mod Bitmaps
pub mod Examples
pub mod Cases
pub mod Table
pub mod Told
