-- Document 01 as definitions, section by section, and the requests of document 02 that have landed. No lemma stands here.
-- Blocks
pub mod Check
pub mod Layout
pub mod Ranges
pub mod Ids
-- EIC
pub mod Eic
-- Sound book
pub mod Book
pub mod Sound
-- Submission: order of checks
pub mod Message
pub mod Codes
pub mod Rules
-- Marks and finals; what an acceptance writes
pub mod Marks
pub mod Nets
pub mod Acceptance
pub mod Looks
pub mod Finals
pub mod Settled
-- Other calls
pub mod Opening
pub mod Clock
pub mod Readings
pub mod PlainRun
pub mod Conversion
pub mod Rights
pub mod QuantityText
pub mod Listing
-- Demand 3
pub mod PlainRule
pub mod Calls
