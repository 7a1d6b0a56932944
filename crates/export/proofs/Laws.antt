-- What the proofs of the calls for C rest on.
pub mod Seal
pub mod Parts
pub mod Demand3
