pub mod Text
pub mod Bound
