-- The reasons for the promises, from what an acceptance does to a block up to all sequences of calls.
-- an acceptance is read back as it was written
pub mod Parts
pub mod Rewritten
pub mod Stored
pub mod Marks
pub mod ReadBack
pub mod Others
-- soundness is kept
pub mod SoundBytes
pub mod SoundApart
pub mod SoundSlots
pub mod SoundSeries
pub mod SoundRights
pub mod Sums
pub mod Nets
pub mod SoundSenders
pub mod Refusals
pub mod Soundness
-- by a conversion too
pub mod ById
pub mod OwnSeries
pub mod ConvertedSlots
pub mod SoundConverted
-- demand 3
pub mod NetsTrue
pub mod PlainRun
pub mod Conversion
pub mod Entering
pub mod KeptMessages
pub mod Invariant
pub mod PlainMarks
pub mod Looks
pub mod Readings
pub mod Finals
-- rights
pub mod OwnRights
pub mod Limits
-- isolation, determinacy
pub mod Contents
pub mod Isolation
-- settled positions
pub mod Settled
