-- Places along a bucket: a walk stands at places of at most 1,000, each further on than the last, so that it ends.
pub mod Laws
use Rattle.std.specs.Prelude.{◌≡◌, List, ℕ, zero, suc, ◌+◌, ◌≤◌, ◌<◌, get_or}

-- those of the blocks from i on: places are counted from 1, and 0 says that there is none
abbrev pub Behind : (i : ℕ) (heads nexts : List ℕ) → Type 0
Behind i heads nexts =
    ((g : ℕ) → get_or heads g 0 ≤ 1000) × ((g : ℕ) → (get_or heads g 0 ≡ 0 → ⊥) → i < get_or heads g 0)
    × ((j : ℕ) → get_or nexts j 0 ≤ 1000) × ((j : ℕ) → (get_or nexts j 0 ≡ 0 → ⊥) → j + 1 < get_or nexts j 0)

-- those of all blocks, also where no walk comes to
abbrev pub Ahead : (heads nexts : List ℕ) → Type 0
Ahead heads nexts = Behind 0 heads nexts

-- ---- a walk along the links

-- the place behind a place
unfoldable pub following : List ℕ → ℕ → ℕ
following nexts zero = 0
following nexts (suc j) = get_or nexts j 0

-- the place that is k steps behind a place
unfoldable pub along : List ℕ → ℕ → ℕ → ℕ
along nexts zero at = at
along nexts (suc k) at = along nexts k (following nexts at)

-- at a place of a walk: the next one, if there is one, stands further on
abbrev pub Stands : (nexts : List ℕ) (at : ℕ) → Type 0
Stands nexts at = (at ≤ 1000) × ((following nexts at ≡ 0 → ⊥) → at < following nexts at)

-- the walk from a place on ends: nothing is said of the places that it does not come to
abbrev pub Ends : (nexts : List ℕ) (at : ℕ) → Type 0
Ends nexts at = (k : ℕ) → Stands nexts (along nexts k at)

-- each walk that begins at the head of a bucket ends
abbrev pub AllEnd : (heads nexts : List ℕ) → Type 0
AllEnd heads nexts = (g : ℕ) → g < 1024 → Ends nexts (get_or heads g 0)
