-- What the proofs of the code say of a book, beside the laws of the crates below.
pub mod Used
pub mod Groups
pub mod Book
pub mod Tags
pub mod Clear
