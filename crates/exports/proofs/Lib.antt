-- Laws of the entries: plans and answers over the cells of the call table and of the tally rows, and answers read back from their cells.
pub mod Plans
pub mod Judged
pub mod Held
pub mod Told
pub mod Tellings
pub mod Settled
