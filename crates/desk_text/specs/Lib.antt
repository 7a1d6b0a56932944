-- What the program desk says and how it reads its arguments.
pub mod Put
pub mod Numbers
pub mod Pieces
pub mod Replies
pub mod Words
pub mod Arguments
pub mod Commands
