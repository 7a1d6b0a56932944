-- The text that tells a book's settled positions.
pub mod Settlement
