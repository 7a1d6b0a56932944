-- Laws that the proofs of this crate share.
pub mod Raising
pub mod Nets
pub mod Words
