-- What the theorems claim, and the worked cases.
pub mod Claims
pub mod Beside
pub mod Cases
pub mod ValueFrames
