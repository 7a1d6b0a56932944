-- Blocks by number, a free block, two series compared, the used slots as a part of a book's bytes, and the area within the day block, as the code finds them.
pub mod Lent
use Rattle.std.specs.Prelude.{◌≡◌, ◌∷◌, ◌+◌, ◌-◌, ◌*◌, ◌/◌, ◌≤◌, ◌<◌}
use Rattle.laws.specs.Kit.{refl, sym, ap, ◌∙◌, Bool, true, false, not, List, [], ℕ, zero, suc, add-sub_cancel_left, arith, length, take, drop, get_or, get_or-eq_default, drop_of_length-le, drop-drop, take-take, ◌and◌, is, split, told, denied, is_yes}
use Rattle.laws.specs.Lists.{same, every, until}
use Rattle.laws.specs.Lists.Keep.{until_take, until_length}
use Rattle.laws.specs.Lists.Each.{drop_take}
use Rattle.laws.specs.Lists.Same.{same_split}
use Rattle.laws.specs.Bytes.{part}
use Rattle.laws.specs.Bytes.Laws.{number_1, part_length, part_take}
use Rattle.laws.specs.Slices.{rest_slice}
use Rattle.laws.specs.Cut.{cut, block}
use Rattle.laws.specs.Cut.Laws.{cut_length, cut_at, cut_short, take_cut}
use Rattle.paper.specs.Layout.{Bytes, Block, zeros, kind, area, pair, key}
use Rattle.paper.specs.Book.{day_block, numbered, slots, is_free, used, is_trade, trade, trade_is}
use Rattle.facts.specs.Keys.{key_same}

-- a block passes a test as the code found it, x being that block
pub found_so : (p : Block → Bool) {x y : Block} {t u : Bool} → x ≡ y → t ≡ p x → t ≡ u → p y ≡ u
found_so p e r q = ap p (sym e) ∙ sym r ∙ q

pub block_none : (s : Bytes) (i : ℕ) → length s / 512 ≤ i → [] ≡ get_or (cut 512 s) i []
block_none s i h = sym (get_or-eq_default (cut 512 s) [] (rw (cut_length 512 s) h))

pub block_some : (s : Bytes) (i : ℕ) → i < length s / 512 → take (512 * i + 512 - 512 * i) (drop (512 * i) s) ≡ get_or (cut 512 s) i []
unfolding block
block_some s i h = rw (add-sub_cancel_left, cut_at 512 s i h)

pub numbered_none : (l : List Block) (k : ℕ) → k ≡ 0 → [] ≡ numbered l k
unfolding numbered
numbered_none l k e = rw e

pub numbered_some : (l : List Block) (k : ℕ) {x : Block} → (k ≡ 0 → ⊥) → x ≡ get_or l (k - 1) [] → x ≡ numbered l k
unfolding numbered
numbered_some l zero n e = absurd (n refl)
numbered_some l (suc k) n e = let z : suc k - 1 ≡ k = omega arith in e ∙ rw z

-- a block whose kind is not 0 is not free
pub kind_used : (b : Block) → (kind b ≡ 0 → ⊥) → is_free b ≡ false
unfolding kind is_free zeros every ◌and◌
kind_used [] n = absurd (n (number_1 0 []))
kind_used (x ∷ b) n = split (is x 0) (λ t. absurd (n (number_1 0 (x ∷ b) ∙ is_yes x 0 t))) (λ t. rw t)

-- ---- two series

-- the parts of the key in the order in which the code looks at them
areas_part : (x : Block) → take 32 (part 24 80 x) ≡ part 24 32 x
unfolding part
areas_part x = take-take 32 80 (drop 24 x) (omega arith)

behind_areas : (x : Block) → drop 32 (part 24 80 x) ≡ part 56 48 x
unfolding part
behind_areas x = drop_take 32 48 (drop 24 x) ∙ ap (take 48) (drop-drop 32 24 x)

areas_and_rest : (a b : Block) → same (part 24 80 a) (part 24 80 b) ≡ (same (part 24 32 a) (part 24 32 b) and same (part 56 48 a) (part 56 48 b))
areas_and_rest a b = same_split 32 (part 24 80 a) (part 24 80 b) ∙ rw (areas_part a, areas_part b, behind_areas a, behind_areas b)

rest_first : (t a r : Bool) → (t and (a and r)) ≡ (r and (t and a))
unfolding ◌and◌
rest_first true true true = refl
rest_first true true false = refl
rest_first true false true = refl
rest_first true false false = refl
rest_first false a true = refl
rest_first false a false = refl

key_parts : (a b : Block) → same (key a) (key b) ≡ (same (part 56 48 a) (part 56 48 b) and (same (part 4 2 a) (part 4 2 b) and same (part 24 32 a) (part 24 32 b)))
key_parts a b = key_same a b ∙ ap (λ z. same (part 4 2 a) (part 4 2 b) and z) (areas_and_rest a b) ∙ rest_first _ _ _

-- past the comparison s of parties and agreement, p and q
module _ (a b : Block) {p q : Bytes} {s : Bool} (e : p ≡ part 56 48 a) (f : q ≡ part 56 48 b) (g : s ≡ same p q) where
  pub key_other : not s ≡ true → false ≡ same (key a) (key b)
  unfolding ◌and◌
  key_other h = sym (key_parts a b ∙ rw (sym e, sym f, denied g h))

  pub key_rest : not s ≡ false → (same (part 4 2 a) (part 4 2 b) and same (part 24 32 a) (part 24 32 b)) ≡ same (key a) (key b)
  unfolding ◌and◌
  key_rest h = sym (key_parts a b ∙ rw (sym e, sym f, told g h))

pub trade_same : (a b : Block) → (is_trade a and is_trade b and same (pair b) (pair a)) ≡ trade_is (trade a) b
unfolding trade trade_is ◌and◌
trade_same a b = split (is_trade a) (λ t. rw t) (λ t. rw t)

-- ---- the used slots

pub used_none : (book : Bytes) → length book < 512 → cut 512 [] ≡ used book
unfolding used slots until
used_none book h = let n : length book ≤ 512 = omega arith in rw (drop_of_length-le book n, cut_short {A = ℕ} 512 [] (omega arith))

pub used_some : (book : Bytes) (u : ℕ) → u ≡ length (until is_free (cut 512 (take (length book - 512) (drop 512 book)))) → cut 512 (take (512 * u) (take (length book - 512) (drop 512 book))) ≡ used book
unfolding used slots
used_some book u e =
    let s : Bytes = drop 512 book in
    let q : u ≡ length (until is_free (cut 512 s)) = e ∙ ap (λ b. length (until is_free (cut 512 b))) (rest_slice 512 book) in
    let h : u ≤ length s / 512 = omega (arith, until_length is_free (cut 512 s), cut_length 512 s) in
    ap (λ b. cut 512 (take (512 * u) b)) (rest_slice 512 book) ∙ take_cut 512 s u h ∙ until_take is_free (cut 512 s) u q

pub used_counted : (book : Bytes) (u : ℕ) → u ≡ length (until is_free (cut 512 (take (length book - 512) (drop 512 book)))) → u ≡ length (used book)
unfolding used slots
used_counted book u e = rw (rest_slice 512 book) at e

-- ---- the area, read of the whole book

pub area_read : (b a : Bytes) → 512 ≤ length b → a ≡ area b → (a ≡ area (day_block b)) × (length a ≡ 16)
unfolding area day_block
area_read b a h e = (e ∙ sym (part_take 24 16 512 b (omega arith)), ap length e ∙ part_length 24 16 b (omega arith))
