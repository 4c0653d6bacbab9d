-- The forwarding writer: what it writes, what its entries answer, and what the theorems about it claim.
pub mod Forward
pub mod Entry
pub mod Claims
pub mod Cases
pub mod Told
