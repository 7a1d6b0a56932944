-- Worked cases of document 02 on external schedules and rights (C-14), each by computation. What a case is, and how messages are built, stands in the crate `cases`.
pub mod Blocks
pub mod Entering
pub mod Schedules
