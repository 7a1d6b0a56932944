-- Worked cases of document 02 on final values, each by computation. What a case is, and how messages are built, stands in the crate `cases`.
pub mod Finals
pub mod Settled
