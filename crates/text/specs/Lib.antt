-- Texts as ASCII codes: literals, numbers in decimal, lines of a page; and a text in a lent buffer.
pub mod Codes
pub mod Decimal
pub mod Text
pub mod Page
