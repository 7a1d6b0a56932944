-- Worked cases of document 01, each by computation: `wrong cases ≡ []` says that none of a list gives something else than it should.
pub mod Opened
pub mod Case
pub mod Examples
-- the cases marked P
pub mod Proved
pub mod Characters
pub mod Listing
