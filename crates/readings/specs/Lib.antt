-- The inner part of a definition that one function answers.
pub mod Closed
pub mod Held
