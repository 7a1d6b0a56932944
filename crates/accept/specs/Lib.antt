-- What the code of an acceptance relies on and does step by step, and that a verdict of 0 gives it.
pub mod Fits
pub mod Passed
pub mod Steps
