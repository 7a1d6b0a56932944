-- Worked cases of document 01 on books and messages, each by computation. What a case is, and how messages are built, stands in the crate `cases`.
pub mod Edges
pub mod Refusals
pub mod Calls
pub mod Filed
