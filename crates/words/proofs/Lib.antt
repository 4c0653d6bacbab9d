pub mod Texts
pub mod Numbers
pub mod Examples
pub mod MadeTexts
