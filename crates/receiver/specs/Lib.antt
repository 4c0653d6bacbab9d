-- One frame's bytes with their side, judged whole; the release of a call; and what the theorems about it speak of.
pub mod Received
pub mod Released
pub mod Front
pub mod Next
pub mod Plan
pub mod Done
pub mod Settled
pub mod SettledRelease
pub mod Told
pub mod Answer
pub mod Planning
pub mod Receive
pub mod Release
pub mod Claims
pub mod Order
pub mod Run
pub mod Fresh
