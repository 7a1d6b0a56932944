-- The length of a record's body: at least the fewest and at most the most bytes of its kind.
pub mod Laws
use Rattle.std.specs.Prelude.{◌≡◌, Bool, false, List, [], ◌∷◌, ℕ, get_or}
use Rattle.std.specs.declared.ops.RangeInclusive.{RangeInclusive}
use Rattle.std.specs.Range.{range_inclusive_start, range_inclusive_end, range_inclusive_exhausted}
use Rattle.laws.specs.Tests.{◌and◌, upto}

abbrev pub Sizes : Type 0
Sizes = ℕ × ℕ

abbrev pub sizes : (fewest most : ℕ) → Sizes
sizes fewest most = (fewest, most)

-- a range from the fewest to the most, of which nothing is taken yet
abbrev pub Spans : RangeInclusive ℕ → Sizes → Type 0
Spans r s = (range_inclusive_start r ≡ s.0) × (range_inclusive_end r ≡ s.1) × (range_inclusive_exhausted r ≡ false)

-- for a tag that is none no length is lawful
abbrev pub unknown : Sizes
unknown = sizes 1 0

-- tag by tag, from 0
unfoldable pub rows : List Sizes
rows =
    unknown
    ∷ sizes 4 4  -- length
    ∷ sizes 4 512516  -- bytes
    ∷ sizes 0 0  -- book
    ∷ sizes 0 0  -- sum
    ∷ sizes 6 198  -- open
    ∷ sizes 2 2  -- clock
    ∷ sizes 0 131072  -- submit
    ∷ sizes 2 130  -- mark
    ∷ sizes 2 130  -- block
    ∷ sizes 4 132  -- final
    ∷ sizes 0 0  -- plain
    ∷ sizes 2 131074  -- reader
    ∷ sizes 0 131072  -- walk
    ∷ sizes 0 0  -- listing
    ∷ sizes 0 0  -- sound
    ∷ sizes 0 64  -- eic
    ∷ sizes 0 64  -- id
    ∷ sizes 0 64  -- read
    ∷ sizes 4 68  -- print
    ∷ sizes 512 512  -- check
    ∷ sizes 512 512  -- seal
    ∷ sizes 1 1  -- code
    ∷ sizes 0 131072  -- judge
    ∷ sizes 7 199  -- open_by
    ∷ sizes 0 0  -- convert
    ∷ sizes 0 1024  -- right
    ∷ sizes 3 67  -- settled
    ∷ []

unfoldable pub sizes_of : (tag : ℕ) → Sizes
sizes_of tag = get_or rows tag unknown

unfoldable pub known : (tag : ℕ) → Bool
known tag = upto (sizes_of tag).0 (sizes_of tag).1

unfoldable pub lawful : (tag n : ℕ) → Bool
lawful tag n = upto (sizes_of tag).0 n and upto n (sizes_of tag).1
