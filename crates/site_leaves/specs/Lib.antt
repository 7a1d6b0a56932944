-- The check on site, by the definitions: what needs no book.
pub mod Leaves
pub mod Proved
