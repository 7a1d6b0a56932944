-- What the proofs of the readings rest on.
pub mod Found
pub mod Marks
pub mod Joined
pub mod Held
pub mod Final
