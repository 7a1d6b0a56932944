-- What each command answers, and what it leaves of the book.
pub mod Answers
