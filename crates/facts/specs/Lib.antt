-- Laws of the paper's definitions, which code and theorems cite.
pub mod Check
pub mod Layout
pub mod Keys
pub mod Book
pub mod Eic
pub mod QuantityText
-- what marks, nets and quantities say
pub mod Marks
pub mod Nets
pub mod Quantities
-- what the two rules choose (C-17)
pub mod Finals
-- the only door from a test to what it gives: a sound book, a message let through, a clock move, an opening
pub mod Sound
pub mod Verdict
pub mod Calls
-- which character a refusal names
pub mod Characters
-- what an acceptance does to each block
pub mod Pairs
pub mod Trades
pub mod Renewal
pub mod Remarking
pub mod Senders
pub mod Stored
-- whose counterpart a series is, and how it is sought slot by slot (C-23)
pub mod Sides
pub mod Looks
pub mod Partners
-- what a conversion does to each block, and the messages that it finds kept
pub mod Conversion
pub mod KeptMessages
pub mod Unchanged
-- what entering a right says (C-14)
pub mod Rights
-- what the sums of settled positions say (C-20)
pub mod Settled
