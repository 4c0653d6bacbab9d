-- What the entries of the reader answer.
pub mod Reading
pub mod Told
pub mod Entry
pub mod Beside
pub mod Judged
pub mod Root
pub mod Childless
pub mod Structs
