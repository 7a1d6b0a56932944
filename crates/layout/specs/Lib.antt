-- The fields that code writes, beyond those of the paper.
pub mod Written
