pub mod Little
pub mod Varuint
pub mod Bitmap
