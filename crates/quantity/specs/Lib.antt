-- Beside the paper's definitions of quantity text.
pub mod Digits
pub mod Told
