-- Two lists, each of series of one sender in a sound book, with the same contents in whatever order: a test that reads contents alone passes on one of them exactly
-- if it does on the other, and the series under a key has the same content in both, since a sender has no key twice.
use Rattle.std.specs.Prelude.{◌≡◌, ◌∷◌, ◌++◌, ◌+◌, ◌-◌, ◌≤◌}
use Rattle.laws.specs.Base.{refl, sym, ap, ◌∙◌, Bool, true, false, true≢false, some, List, [], ℕ, arith, length, take, drop, length-append, drop_at, take_at}
use Rattle.laws.specs.Tests.{neg}
use Rattle.laws.specs.Tests.Laws.{split, clash, and_left, and_right, neg_yes}
use Rattle.laws.specs.Lists.{find, has, apart, All}
use Rattle.laws.specs.Lists.Same.{same_yes, same_equal}
use Rattle.laws.specs.Lists.Each.{all_keep, all_kept, all_find, every_all}
use Rattle.laws.specs.Lists.Search.{has_yes, has_no_find, find_passes, find_has_other}
use Rattle.laws.specs.Lists.Apart.{apart_keep}
use Rattle.laws.specs.Bytes.{part}
use Rattle.laws.specs.Bytes.Laws.{part_length, part_part}
use Rattle.paper.specs.Layout.{Bytes, Block, key}
use Rattle.paper.specs.Book.{used, slot_of, is_series_of, own_series, key_is}
use Rattle.paper.specs.Sound.{same_series}
use Rattle.paper.specs.Rules.{stored_of}
use Rattle.facts.specs.Layout.{Alike, alike_refl, alike_key}
use Rattle.facts.specs.Book.{series_of_series, series_of_slot, used_lengths}
use Rattle.facts.specs.Sound.{Sound}
use Rattle.facts.specs.Keys.{key_is_yes, key_is_equal}
use Rattle.promises.specs.Laws.SoundApart.{same_series_yes, same_key_yes}
use Rattle.promises.specs.Words.{content, content_is, SameContents}

-- ---- blocks of one content

-- where x and y agree in a part, they agree in each part of it
pub parts_agree : (o n p m : ℕ) (x y : Bytes) → o ≤ p → p + m ≤ o + n → part o n x ≡ part o n y → part p m x ≡ part p m y
parts_agree o n p m x y h f e =
    let i : o + (p - o) ≡ p = omega arith in
    rw i at (sym (part_part o n (p - o) m x (omega arith)) ∙ ap (part (p - o) m) e ∙ part_part o n (p - o) m y (omega arith))

append_same : (a b c d : Bytes) (n : ℕ) → length a ≡ n → length c ≡ n → a ++ b ≡ c ++ d → (a ≡ c) × (b ≡ d)
append_same a b c d n h k e = (sym (take_at a b n h) ∙ ap (take n) e ∙ take_at c d n k, sym (drop_at a b n h) ∙ ap (drop n) e ∙ drop_at c d n k)

content_alike : (x y : Block) → length x ≡ 512 → length y ≡ 512 → content x ≡ content y → Alike x y
unfolding content
content_alike x y h k e =
    let outer = append_same (part 0 6 x ++ part 8 96 x) (part 108 400 x) (part 0 6 y ++ part 8 96 y) (part 108 400 y) 102 (ahead x h) (ahead y k) e in
    let inner = append_same (part 0 6 x) (part 8 96 x) (part 0 6 y) (part 8 96 y) 6 (part_length 0 6 x (omega arith)) (part_length 0 6 y (omega arith)) outer.0 in
    record {
      front = λ o n f. parts_agree 0 6 o n x y (omega arith) (omega arith) inner.0;
      middle = λ o n f g. parts_agree 8 96 o n x y (omega arith) (omega arith) inner.1;
      back = λ o n f g. parts_agree 108 400 o n x y (omega arith) (omega arith) outer.1;
    }
  where
    ahead : (z : Block) → length z ≡ 512 → length (part 0 6 z ++ part 8 96 z) ≡ 102
    ahead z l = rw (length-append (part 0 6 z) (part 8 96 z), part_length 0 6 z (omega arith), part_length 8 96 z (omega arith))

-- ---- the series of one sender

-- whole blocks, in one sender's slot, no two of them with one id or one key
pub record OfOneSender (own : List Block) : Type 0 where
  pub slot : ℕ
  pub whole : All (λ x. length x ≡ 512) own
  pub series : All (λ x. is_series_of slot x ≡ true) own
  pub distinct : apart same_series own ≡ true

pub own_of_one_sender : (book : Bytes) → Sound book → (e : Bytes) → OfOneSender (own_series (used book) e)
unfolding own_series
own_of_one_sender book s e = record {
  slot = slot_of (used book) e;
  whole = all_keep (λ x. length x ≡ 512) _ (used book) (used_lengths book);
  series = all_kept _ (used book);
  distinct = apart_keep same_series _ (used book) s.series;
}

-- what any search finds is the one with its key
found_by_key : (slot : ℕ) (own : List Block) → All (λ x. is_series_of slot x ≡ true) own → apart same_series own ≡ true
    → (p : Block → Bool) (x : Block) → find p own ≡ some x → find (key_is (key x)) own ≡ some x
unfolding find apart
found_by_key slot [] s a p x e = let z : true ≡ false = cc in absurd (true≢false z)
found_by_key slot (y ∷ ys) s a p x e = split (p y)
    (λ t. let f : some y ≡ some x = rw t at e in let i : y ≡ x = cc in rw (i, key_is_equal (key x) x refl))
    (λ t.
    let f : find p ys ≡ some x = rw t at e in
    let n : same_series y x ≡ false = neg_yes _ (all_find (λ z. neg (same_series y z) ≡ true) p ys x (every_all _ ys (and_left _ _ a)) f) in
    let o : is_series_of slot x ≡ true = all_find (λ z. is_series_of slot z ≡ true) p ys x s.1 f in
    let q : key_is (key x) y ≡ false = split (key_is (key x) y)
    (λ u. clash (same_series_yes y x (series_of_series slot y s.0) (series_of_series slot x o) (series_of_slot slot y s.0 ∙ sym (series_of_slot slot x o))
    (same_key_yes y x (key_is_yes (key x) y u))) n) (λ u. u) in
    rw q (found_by_key slot ys s.1 (and_right _ _ a) p x f))

-- ---- two such lists with the same contents

-- what is found in one has its like in the other
twin : (own other : List Block) → OfOneSender own → OfOneSender other → SameContents own other → (p : Block → Bool) (x : Block) → find p own ≡ some x
    → (y : Block) × (find (content_is (content x)) other ≡ some y) × Alike x y
unfolding content_is
twin own other a b s p x f =
    let y = has_yes _ other (sym (s (content x)) ∙ find_has_other p (content_is (content x)) own x f (same_equal _ _ refl)) in (
      y.0,
      y.1,
      content_alike x y.0 (all_find (λ z. length z ≡ 512) p own x a.whole f) (all_find (λ z. length z ≡ 512) _ other y.0 b.whole y.1)
          (sym (same_yes _ _ (find_passes _ other y.0 y.1))),
    )

-- a test that reads contents alone
abbrev pub ReadsContents : (Block → Bool) → Type 0
ReadsContents p = (x y : Block) → Alike x y → p x ≡ p y

pub key_reads : (k : Bytes) → ReadsContents (key_is k)
unfolding key_is
key_reads k x y a = rw (alike_key x y a)

has_over : (own other : List Block) → OfOneSender own → OfOneSender other → SameContents own other → (p : Block → Bool) → ReadsContents p → has p own ≡ true
    → has p other ≡ true
has_over own other a b s p r t =
    let x = has_yes p own t in
    let y = twin own other a b s p x.0 x.1 in
    find_has_other _ p other y.0 y.1 (sym (r x.0 y.0 y.2) ∙ find_passes p own x.0 x.1)

module _ (own other : List Block) (a : OfOneSender own) (b : OfOneSender other) (s : SameContents own other) where
  pub has_contents : (p : Block → Bool) → ReadsContents p → has p own ≡ has p other
  has_contents p r = split (has p own) (λ t. t ∙ sym (has_over own other a b s p r t))
      (λ t. t ∙ sym (split (has p other) (λ u. clash (has_over other own b a (λ c. sym (s c)) p r u) t) (λ u. u)))

  pub stored_contents : (y : Block) → Alike (stored_of own y) (stored_of other y)
  unfolding stored_of
  stored_contents y = split (has (key_is (key y)) own)
      (λ t.
      let x = has_yes _ own t in
      let z = twin own other a b s _ x.0 x.1 in
      let k : key z.0 ≡ key y = sym (alike_key _ _ z.2) ∙ key_is_yes _ _ (find_passes _ own x.0 x.1) in
      let f : find (key_is (key y)) other ≡ some z.0 = rw k at (found_by_key b.slot other b.series b.distinct _ z.0 z.1) in
      rw (x.1, f) z.2)
      (λ t. rw (has_no_find _ own t, has_no_find _ other (sym (has_contents _ (key_reads (key y))) ∙ t)) (alike_refl []))
