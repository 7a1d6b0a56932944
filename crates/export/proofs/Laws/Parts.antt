-- A part that C is handed has the bytes which the paper's definition gives: block k of a buffer is block k − 1 of those behind its first.
use Rattle.std.specs.Prelude.{◌≡◌, ◌⊎◌, ◌∷◌, ◌*◌, ◌/◌, ◌≤◌, ◌<◌}
use Rattle.laws.specs.Kit.{refl, sym, ap, ◌∙◌, inl, inr, Bool, true, false, option_get_or, List, [], ℕ, zero, suc, arith, length, drop, get_or, get_or-eq_default, get_or-take, ◌or◌, is_equal, is_other, upto_true, upto_false, lt_or}
use Rattle.laws.specs.Lists.{nth, place, until}
use Rattle.laws.specs.Lists.Search.{nth_place, place_length}
use Rattle.laws.specs.Lists.Keep.{until_take}
use Rattle.laws.specs.Bytes.{part}
use Rattle.laws.specs.Cut.{cut, block}
use Rattle.laws.specs.Cut.Laws.{cut_length, cut_at, cut_drop}
use Rattle.paper.specs.Layout.{Bytes, Block}
use Rattle.paper.specs.Book.{slots, used, is_free, numbered}
use Rattle.paper.specs.Sound.{sound}
use Rattle.paper.specs.Message.{series_of, rule2, series_numbered}
use Rattle.paper.specs.Readings.{is_stored_as, stored_as, accepted_block}
use Rattle.export.specs.declared.parts.Part.{Part}
use Rattle.export.specs.Parts.{bytes_of, nothing, part_numbered, accepted_part, series_part}

-- ---- as the code finds it

pub part_first : (b : Bytes) (k : ℕ) → k ≡ 0 → nothing ≡ part_numbered b k
unfolding part_numbered ◌or◌
part_first b k e = rw (is_equal k 0 e)

pub part_past : (b : Bytes) (k : ℕ) → (k ≡ 0 → ⊥) → length b / 512 ≤ k → nothing ≡ part_numbered b k
unfolding part_numbered ◌or◌
part_past b k n h = rw (is_other k 0 n, upto_true _ _ h)

pub part_inside : (b : Bytes) (k : ℕ) → (k ≡ 0 → ⊥) → k < length b / 512 → record { offset = 512 * k; length = 512 } ≡ part_numbered b k
unfolding part_numbered ◌or◌
part_inside b k n h = rw (is_other k 0 n, upto_false _ _ h)

-- ---- its bytes

behind : (l : List Block) (j : ℕ) → get_or (drop 1 l) j [] ≡ get_or l (suc j) []
behind [] j = refl
behind (x ∷ l) j = refl

none : (b : Bytes) {p : Part} → nothing ≡ p → bytes_of p b ≡ []
unfolding bytes_of part
none b e = rw (← e)

some : (b : Bytes) (k : ℕ) {p : Part} → record { offset = 512 * k; length = 512 } ≡ p → bytes_of p b ≡ block 512 b k
unfolding bytes_of part block
some b k e = rw (← e)

bytes_numbered : (b : Bytes) (k : ℕ) → bytes_of (part_numbered b k) b ≡ numbered (cut 512 (drop 512 b)) k
unfolding numbered
bytes_numbered b zero = none b (part_first b 0 refl)
bytes_numbered b (suc j) = by (lt_or (suc j) (length b / 512)) ∙ sym (behind (cut 512 b) j) ∙ ap (λ l. get_or l j []) (sym (cut_drop 512 b 1))
  where
    later : suc j ≡ 0 → ⊥
    later e = omega arith

    by : (suc j < length b / 512) ⊎ (length b / 512 ≤ suc j) → bytes_of (part_numbered b (suc j)) b ≡ get_or (cut 512 b) (suc j) []
    by (inl h) = some b (suc j) (part_inside b (suc j) later h) ∙ sym (cut_at 512 b (suc j) h)
    by (inr h) = none b (part_past b (suc j) later h) ∙ sym (get_or-eq_default (cut 512 b) [] (rw (cut_length 512 b) h))

-- ---- the series of a message

pub series_broken : (m : Bytes) (k : ℕ) {r : Part} → rule2 m ≡ true → r ≡ nothing → (r ≡ series_part m k) × (bytes_of r m ≡ series_numbered m k)
unfolding series_part series_numbered
series_broken m k h e = (rw h e, rw h (none m (sym e)))

pub series_right_lem : (m : Bytes) (k : ℕ) {r : Part} → rule2 m ≡ false → r ≡ part_numbered m k → (r ≡ series_part m k) × (bytes_of r m ≡ series_numbered m k)
unfolding series_part series_numbered series_of
series_right_lem m k h e = (rw h e, rw (h, e) (bytes_numbered m k))

-- ---- the accepted block

numbered_nth : (l : List Block) (k : ℕ) → numbered l k ≡ option_get_or (nth l k) []
unfolding numbered nth
numbered_nth [] zero = refl
numbered_nth [] (suc k) = refl
numbered_nth (x ∷ l) zero = refl
numbered_nth (x ∷ l) (suc zero) = refl
numbered_nth (x ∷ l) (suc (suc k)) = numbered_nth l (suc k)

numbered_until : (p : Block → Bool) (l : List Block) (k : ℕ) → k ≤ length (until p l) → numbered l k ≡ numbered (until p l) k
unfolding numbered
numbered_until p l zero h = refl
numbered_until p l (suc j) h = sym (get_or-take (length (until p l)) l j [] h) ∙ ap (λ (r : List Block). get_or r j []) (until_take p l _ refl)

module _ (book e i : Bytes) where
  pub accepted_unsound : {r : Part} → sound book ≡ false → r ≡ nothing → (r ≡ accepted_part book e i) × (bytes_of r book ≡ accepted_block book e i)
  unfolding accepted_part accepted_block
  accepted_unsound h q = (rw h q, rw h (none book (sym q)))

  at_place : bytes_of (part_numbered book (place (is_stored_as (used book) e i) (used book))) book ≡ option_get_or (stored_as (used book) e i) []
  unfolding used slots stored_as
  at_place =
      let p : Block → Bool = is_stored_as (used book) e i in
      bytes_numbered book _ ∙ numbered_until is_free (slots book) _ (place_length p (used book)) ∙ numbered_nth (used book) _ ∙ ap (λ x. option_get_or x []) (nth_place p (used book))

  pub accepted_sound : {us : List Block} {t : ℕ} {r : Part} → sound book ≡ true → us ≡ used book → t ≡ place (is_stored_as us e i) us → r ≡ part_numbered book t
      → (r ≡ accepted_part book e i) × (bytes_of r book ≡ accepted_block book e i)
  unfolding accepted_part accepted_block
  accepted_sound {us} {t} h u q f =
      let w : t ≡ place (is_stored_as (used book) e i) (used book) = rw (← u) q in
      (rw (h, ← w) f, rw (h, f, w) at_place)
