-- What the code hands down inside a call: the characters' values.
pub mod Values
