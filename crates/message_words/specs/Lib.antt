-- What the text form of a message is made of.
pub mod Words
