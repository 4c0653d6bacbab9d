pub mod Entry
pub mod Claims
pub mod Cases
pub mod Part
