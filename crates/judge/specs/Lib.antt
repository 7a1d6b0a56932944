-- What the judgement hands down, and what it hands on to the acceptance.
pub mod Looked
pub mod Order
pub mod Sums
