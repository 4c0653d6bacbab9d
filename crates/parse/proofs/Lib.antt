pub mod Answers
pub mod Blames
pub mod Pieces
pub mod Places
