-- Values, the reading of payloads, and the reading of sheets for the writer.
pub mod Value
pub mod Plan
pub mod Comparisons
pub mod Read
pub mod Spell
pub mod Sheet
pub mod Write
pub mod Fits
pub mod Delimits
pub mod Added
pub mod Reasons
pub mod SheetReasons
pub mod Beside
pub mod Numbered
pub mod Claims
pub mod Narrow
