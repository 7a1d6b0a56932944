-- What the code hands down inside a call.
pub mod Numbers
