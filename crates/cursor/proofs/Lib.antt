pub mod Items
pub mod Texts
pub mod Laws
pub mod Examples
pub mod Told
