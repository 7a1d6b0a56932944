pub mod MessageText
pub mod Rows
