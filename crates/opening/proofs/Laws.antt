-- What the proofs of an opening rest on.
pub mod DayBlock
pub mod Written
pub mod Judged
pub mod Opened
