pub mod Utf8s
pub mod Unicodes
pub mod Asciis
pub mod Pairs
pub mod Examples
