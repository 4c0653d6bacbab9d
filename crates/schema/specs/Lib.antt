-- The schema table and what its type numbers stand for; its file; its check; and when one table extends another.
pub mod Table
pub mod File
pub mod Check
pub mod Numbered
pub mod Good
pub mod Faults
pub mod Encoded
pub mod Widths
pub mod Numbers
pub mod Extend
pub mod Checked
pub mod Extended
