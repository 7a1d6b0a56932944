-- Laws that the proofs of this crate share.
pub mod Looking
pub mod Marking
pub mod Laying
pub mod Adding
pub mod InTurn
pub mod Renewing
pub mod Touching
pub mod Phases
pub mod Parts
pub mod Whole
