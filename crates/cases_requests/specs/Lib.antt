-- Worked cases of document 02 on books and messages, each by computation. What a case is, and how messages are built, stands in the crate `cases`.
pub mod Characters
pub mod Differing
pub mod Conversion
pub mod Looks
