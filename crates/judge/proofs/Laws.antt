-- Laws that the proofs of this crate share.
pub mod Order
pub mod Quantities
pub mod Places
pub mod Sums
pub mod Rights
pub mod Rule7
pub mod Series
pub mod Joined
pub mod Whole
