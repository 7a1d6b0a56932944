-- Laws that the proofs of this crate share.
pub mod Reading
pub mod Printing
