-- What the exported functions answer, how they store it, and how it is read back.
pub mod Answers
pub mod Numbers
pub mod Run
pub mod Told
