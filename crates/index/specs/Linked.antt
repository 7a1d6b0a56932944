-- Blocks in a row, linked in buckets by the bytes of a field: a search meets no block of another bucket.
pub mod Laws
use Rattle.std.specs.Prelude.{◌≡◌, Bool, true, false, Option, Some, MatchOption, List, [], ℕ, ◌+◌, ◌≤◌, ◌<◌, ◌/◌, length, drop, get_or}
use Rattle.laws.specs.Tests.{◌and◌, is}
use Rattle.laws.specs.Lists.{place}
use Rattle.laws.specs.Bytes.{part}
use Rattle.laws.specs.Cut.{cut}
use Rattle.laws.specs.Loops.{place_from}
use Rattle.paper.specs.Layout.{Bytes, Block, id_of, pair, key}
use Rattle.paper.specs.Book.{is_series, is_series_of, id_is, key_is, trade, trade_is}
use Rattle.index.specs.declared.By.{By}
use Rattle.index.specs.declared.By.TheVariants.{Id, Key, Trade}
use Rattle.index.specs.Tags.{key_tag_of}

-- one of 1,024, by the upper bits of the tag: blocks with the same bytes share it, and few others
unfoldable pub bucket : Bytes → ℕ
bucket v = key_tag_of v / 4194304

-- the bytes that a series' bucket is made of. Those of a key are its parties and its agreement: what else a key has, most series have in common
unfoldable pub hashed : By → Block → Bytes
hashed Id x = id_of x
hashed Key x = part 56 48 x
hashed Trade x = pair x

-- x has what y is sought by
unfoldable pub alike : By → Block → Block → Bool
alike Id y x = id_is (id_of y) x
alike Key y x = key_is (key y) x
alike Trade y x = trade_is (trade y) x

-- ---- which blocks are linked, and in which bucket

unfoldable pub own_in : ℕ → By → ℕ → Block → Bool
own_in slot by g x = is_series_of slot x and is (bucket (hashed by x)) g

unfoldable pub series_in : ℕ → Block → Bool
series_in g x = is_series x and is (bucket (pair x)) g

-- ---- the links, from block i on; places are counted from 1, and 0 says that there is none

module _ (p : ℕ → Block → Bool) (l : List Block) where
  -- of each bucket the first block
  unfoldable pub Heads : ℕ → List ℕ → Type 0
  Heads i heads = (g : ℕ) → g < 1024 → get_or heads g 0 ≡ place_from i (p g) (drop i l)

  -- of each block the next of its bucket
  unfoldable pub Nexts : ℕ → List ℕ → Type 0
  Nexts i nexts = (j : ℕ) → i ≤ j → j < length l → (g : ℕ) → p g (get_or l j []) ≡ true → get_or nexts j 0 ≡ place_from (j + 1) (p g) (drop (j + 1) l)

  pub record Links (i : ℕ) (heads nexts : List ℕ) : Type 0 where
    pub begin : Heads i heads
    pub go_on : Nexts i nexts
    pub buckets : length heads ≡ 1024
    pub nexts_length : length nexts ≡ 1000

-- r names the bucket in which p links x, or that p links it in none
abbrev pub Told : (p : ℕ → Block → Bool) (x : Block) (r : Option ℕ) → Type 0
Told p x r = MatchOption r ((g : ℕ) → p g x ≡ false) (λ b. (g : ℕ) → p g x ≡ is b g)

-- gives tells of the blocks of s nothing but buckets
abbrev pub Named : (gives : Block → Option ℕ → Type 0) (s : Bytes) → Type 0
Named gives s = (k g : ℕ) → k < length s / 512 → gives (get_or (cut 512 s) k []) (Some g) → g < 1024

-- from block i on they are linked by every p that says of each block what gives tells of it
abbrev pub LinkedAs : (gives : Block → Option ℕ → Type 0) (s : Bytes) (i : ℕ) (heads nexts : List ℕ) → Type 0
LinkedAs gives s i heads nexts =
    (p : ℕ → Block → Bool) → ((k : ℕ) (r : Option ℕ) → k < length s / 512 → gives (get_or (cut 512 s) k []) r → Told p (get_or (cut 512 s) k []) r) → Links p (cut 512 s) i heads nexts

-- a search from block t on, along the blocks of l that p links: p links all that pass q, and whether block j passes, counted from 0, is told by gives
pub record Search (nexts : List ℕ) (gives : ℕ → Bool → Type 0) (l : List Block) (p q : Block → Bool) (t : ℕ) : Type 0 where
  pub along : (j : ℕ) → t ≤ j → j < length l → p (get_or l j []) ≡ true → get_or nexts j 0 ≡ place_from (j + 1) p (drop (j + 1) l)
  pub linked : (x : Block) → q x ≡ true → p x ≡ true
  pub told : (j : ℕ) (b : Bool) → j < length l → gives j b → b ≡ q (get_or l j [])

-- begun at the first block that p links, it finds the first that passes
abbrev pub Finds : (nexts : List ℕ) (gives : ℕ → Bool → Type 0) (from found : ℕ) → Type 0
Finds nexts gives from found =
    (l : List Block) (p q : Block → Bool) (t : ℕ) → Search nexts gives l p q t → from ≡ place_from t p (drop t l) → found ≡ place_from t q (drop t l)

-- in a bucket that holds all that pass, where p links all blocks
abbrev pub FindsIn : (heads nexts : List ℕ) (gives : ℕ → Bool → Type 0) (bucket found : ℕ) → Type 0
FindsIn heads nexts gives bucket found =
    (l : List Block) (p : ℕ → Block → Bool) (q : Block → Bool) → Links p l 0 heads nexts → ((x : Block) → q x ≡ true → p bucket x ≡ true)
    → ((j : ℕ) (b : Bool) → j < length l → gives j b → b ≡ q (get_or l j [])) → found ≡ place q l

-- ---- what is sought

-- x is a series of the sender in a slot, and has what y is sought by
unfoldable pub own_with : ℕ → By → Block → Block → Bool
own_with slot by y x = is_series_of slot x and alike by y x

-- of each block y of some the place, in l, of the first x that passes sought y x
pub record FoundBy (sought : Block → Block → Bool) (l of : List Block) (found : List ℕ) : Type 0 where
  pub each : (k : ℕ) → k < length of → get_or found k 0 ≡ place (sought (get_or of k [])) l
  pub room : length found ≡ 1000

abbrev pub Found : (slot : ℕ) (by : By) (l of : List Block) (found : List ℕ) → Type 0
Found slot by l of found = FoundBy (own_with slot by) l of found
