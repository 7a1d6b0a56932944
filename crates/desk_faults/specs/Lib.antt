-- What the EIC check finds wrong with a code, in words.
pub mod Faults
