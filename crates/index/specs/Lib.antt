-- Numbers made of fields; blocks linked by them, what a search along the links finds, and what of it is handed on.
pub mod Tags
pub mod Ahead
pub mod Linked
pub mod Rights
pub mod Handed
