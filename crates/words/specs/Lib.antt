-- What the program's verbs but list and find print: the numbers in words, a number read, and the texts.
pub mod Reasons
pub mod Number
pub mod Words
pub mod Made
pub mod Numbered
