-- The sixteen forms, the record of a call, the call table and when it is good, its step on a frame and on a release, and the order of a call's events.
pub mod Forms
pub mod Numbers
pub mod Record
pub mod Slots
pub mod Limits
pub mod Judged
pub mod Told
pub mod Judge
pub mod OwnSlots
pub mod Step
pub mod Counting
pub mod Good
pub mod Event
pub mod Apart
pub mod Belongs
pub mod Order
pub mod Figures
