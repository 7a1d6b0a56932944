-- Laws that the proofs of this crate share.
pub mod Steps
pub mod Turns
pub mod Blocks
pub mod Writing
