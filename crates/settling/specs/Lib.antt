-- The finals of the pairs slot by slot, and their sums.
pub mod Values
