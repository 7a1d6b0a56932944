-- Two blocks whose tags both differ do not clash.
use Rattle.std.specs.Prelude.{◌≡◌, ◌+◌, ◌≤◌, ◌<◌}
use Rattle.laws.specs.Kit.{sym, ap, ◌∙◌, true, false, List, [], ℕ, arith, length, drop, get_or, set, get_or-set_same, get_or-set_other, ◌or◌, is, less, split, clash, and_left, and_right, or_no, or_else, or_yes_left, or_yes_right, is_equal, less_yes, less_no}
use mathlib.Core.Bool.{◌||◌}
use lib.Dec.{eqb}
use Rattle.laws.specs.Lists.{same}
use Rattle.laws.specs.Lists.Same.{same_yes}
use Rattle.laws.specs.Cut.{cut}
use Rattle.laws.specs.Bytes.{part, number}
use Rattle.laws.specs.Bytes.Laws.{part_part, number_part}
use Rattle.paper.specs.Layout.{Bytes, Block, id_of, business_type, pair, key, but_limits}
use Rattle.paper.specs.Book.{is_sender, is_series, is_trade}
use Rattle.paper.specs.Sound.{same_sender, same_series, same_right}
use Rattle.facts.specs.Book.{series_not_sender, right_not_sender}
use Rattle.facts.specs.Keys.{key_back, key_business}
use Rattle.sound.specs.Used.{clashes}
use Rattle.index.specs.Tags.{tag_of}
use Rattle.sound.specs.Links.{wide_tag, key_tag, id_tag, Tagged}
use Rattle.sound.specs.declared.links.Tag.{Tag}

pub tagged_none : (s : Bytes) (l : List Tag) → Tagged (cut 512 s) 0 l
unfolding Tagged
tagged_none s l j h d = absurd (omega arith)

pub tagged_more : (s : Bytes) (i : ℕ) (l : List Tag) {b : Block} (t : Tag) → i < length l → b ≡ get_or (cut 512 s) i [] → (t.id ≡ id_tag b) × (t.key ≡ key_tag b)
    → Tagged (cut 512 s) i l → Tagged (cut 512 s) (i + 1) (set l i t)
unfolding Tagged
tagged_more s i l t h e q a j c d =
    split (less j i)
    (λ v. let w : j < i = less_yes j i v in rw (get_or-set_other l i j t d (λ z. omega arith)) (a j w d))
    (λ v. let z : j ≡ i = omega (arith, less_no j i v) in rw (z, get_or-set_same l i t d h, ← e) q)

pub tagged_all : (s : Bytes) (i m : ℕ) (l : List Tag) → i ≤ m → m ≤ i → Tagged (cut 512 s) i l → Tagged (cut 512 s) m l
tagged_all s i m l h k a = let e : i ≡ m = omega arith in rw e at a

-- ---- what clashes has one tag in common

-- two blocks that have areas, parties and agreement in common; where they are no senders, and of one type
module _ (a b : Block) (e : part 24 80 a ≡ part 24 80 b) where
  inside : (o w : ℕ) → o + w ≤ 80 → part (24 + o) w a ≡ part (24 + o) w b
  inside o w h = sym (part_part 24 80 o w a h) ∙ ap (part o w) e ∙ part_part 24 80 o w b h

  wide : wide_tag a ≡ wide_tag b
  unfolding wide_tag
  wide = rw (inside 0 32 (omega arith), inside 32 48 (omega arith))

  other_tag : is_sender a ≡ false → is_sender b ≡ false → business_type a ≡ business_type b → key_tag a ≡ key_tag b
  unfolding key_tag is_trade pair
  other_tag n m t = rw (n, m, t, inside 32 32 (omega arith), wide)

but_limits_type : (a b : Block) → but_limits a ≡ but_limits b → business_type a ≡ business_type b
unfolding but_limits business_type
but_limits_type a b e = sym (number_part 1 0 108 4 a (omega arith)) ∙ ap (number 1 4) e ∙ number_part 1 0 108 4 b (omega arith)

but_limits_key : (a b : Block) → but_limits a ≡ but_limits b → part 24 80 a ≡ part 24 80 b
unfolding but_limits
but_limits_key a b e = sym (part_part 0 108 24 80 a (omega arith)) ∙ ap (part 24 80) e ∙ part_part 0 108 24 80 b (omega arith)

module _ (a b : Block) where
  sender_tag : same_sender a b ≡ true → key_tag a ≡ key_tag b
  unfolding same_sender key_tag
  sender_tag t = let u = and_left _ _ t in rw (and_left _ _ u, and_right _ _ u) (ap tag_of (same_yes _ _ (and_right _ _ t)))

  right_tag : same_right a b ≡ true → key_tag a ≡ key_tag b
  unfolding same_right
  right_tag t =
      let u = and_left _ _ t in
      let e = same_yes _ _ (and_right _ _ t) in
      other_tag a b (but_limits_key a b e) (right_not_sender a (and_left _ _ u)) (right_not_sender b (and_right _ _ u)) (but_limits_type a b e)

  pub right_wide : same_right a b ≡ true → wide_tag a ≡ wide_tag b
  unfolding same_right
  right_wide t = wide a b (but_limits_key a b (same_yes _ _ (and_right _ _ t)))

  module _ (u : is_series a ≡ true) (v : is_series b ≡ true) where
    series_id_tag : same (id_of a) (id_of b) ≡ true → id_tag a ≡ id_tag b
    unfolding id_tag
    series_id_tag w = rw (u, v) (ap tag_of (same_yes _ _ w))

    series_key_tag : same (key a) (key b) ≡ true → key_tag a ≡ key_tag b
    series_key_tag w =
        let e = same_yes _ _ w in
        other_tag a b (sym (key_back a) ∙ ap (drop 2) e ∙ key_back b) (series_not_sender a u) (series_not_sender b v) (key_business a b e)

tag_clash : (a b : Block) → clashes a b ≡ true → (is (id_tag a) (id_tag b) or is (key_tag a) (key_tag b)) ≡ true
unfolding clashes same_series
tag_clash a b e =
    split (same_sender a b) (λ t. or_yes_right _ _ (is_equal _ _ (sender_tag a b t)))
    (λ t. split (same_series a b)
    (λ s.
    let k = and_left _ _ (and_left _ _ s) in
    let u = and_left _ _ k in
    let v = and_right _ _ k in
    split (same (id_of a) (id_of b)) (λ w. or_yes_left _ _ (is_equal _ _ (series_id_tag a b u v w)))
    (λ w. or_yes_right _ _ (is_equal _ _ (series_key_tag a b u v (or_else _ _ (and_right _ _ s) w)))))
    (λ s. or_yes_right _ _ (is_equal _ _ (right_tag a b (or_else _ _ e (or_no _ _ t s))))))

pub tags_apart : (s : Bytes) (m : ℕ) (l : List Tag) (i j : ℕ) (d t : Tag) → Tagged (cut 512 s) m l → (t.id ≡ id_tag (get_or (cut 512 s) i [])) → (t.key ≡ key_tag (get_or (cut 512 s) i [])) → j < m
    → (eqb t.id (get_or l j d).id || eqb t.key (get_or l j d).key) ≡ false → false ≡ clashes (get_or (cut 512 s) i []) (get_or (cut 512 s) j [])
unfolding Tagged is ◌or◌
tags_apart s m l i j d t a u v k e =
    sym (split (clashes (get_or (cut 512 s) i []) (get_or (cut 512 s) j [])) (λ w. clash (tag_clash _ _ w) (rw (u, (a j k d).0, v, (a j k d).1) at e)) (λ w. w))

pub tag_at : (s : Bytes) (m : ℕ) (l : List Tag) → Tagged (cut 512 s) m l → (i : ℕ) → i < m → (d : Tag) → ((get_or l i d).id ≡ id_tag (get_or (cut 512 s) i [])) × ((get_or l i d).key ≡ key_tag (get_or (cut 512 s) i []))
unfolding Tagged
tag_at s m l a i h d = a i h d
