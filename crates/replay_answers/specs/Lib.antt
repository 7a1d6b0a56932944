-- What a replay answers to each call of a stream, and what it leaves of the book.
pub mod Answers
