-- The check on site, by the definitions: what its table asks, and that each row gives what the table expects.
pub mod Site
pub mod Tables
pub mod Proved
