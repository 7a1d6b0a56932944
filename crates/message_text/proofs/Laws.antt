-- What the proofs of the text form rest on.
pub mod Fields
pub mod Lines
