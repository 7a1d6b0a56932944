-- What an accepted entering of a right says, as a record; a refused one changes nothing.
use Rattle.std.specs.Prelude.{◌≡◌, ◌++◌, ◌+◌, ◌*◌, ◌<◌, ◌≤◌}
use Rattle.laws.specs.Base.{sym, ap₂, ◌∙◌, true, false, ℕ, arith, length}
use Rattle.laws.specs.Tests.{◌or◌, neg, is}
use Rattle.laws.specs.Tests.Laws.{split, and_left, and_right, and_both, or_left, or_right, neg_no, neg_true, neg_false, is_yes, is_no, is_equal, is_other}
use Rattle.laws.specs.Lists.{has}
use Rattle.laws.specs.Lists.Same.{same_yes, same_equal}
use Rattle.laws.specs.Bytes.{part, number, written}
use Rattle.laws.specs.Bytes.Laws.{part_length, part_add}
use Rattle.paper.specs.Check.{check_right}
use Rattle.paper.specs.Layout.{Bytes, Block, zeros, kind, n_of, business_type, contract_type, in_area, out_area, in_party, out_party, agreement, holder, right_zeros, but_limits}
use Rattle.paper.specs.Book.{day_block, used, free_slots, is_right, with_capacity}
use Rattle.paper.specs.Sound.{right_fields, right_sound, same_right, sound}
use Rattle.paper.specs.Rules.{names}
use Rattle.paper.specs.Rights.{right_allowed, enter_number, entered}
use Rattle.facts.specs.Keys.{zeros_same, single}
use Rattle.facts.specs.Sound.{Sound, sound_says}

pub record Enters (book block : Bytes) : Type 0 where
  pub was : Sound book
  pub whole : length block ≡ 512
  pub check : check_right block ≡ true
  pub kind : is_right block ≡ true
  pub right : right_sound (day_block book) block ≡ true
  pub once : has (same_right block) (used book) ≡ false
  pub room : 0 < free_slots book
  pub result : entered book block ≡ written (512 + 512 * length (used book)) block book

module _ (book block : Bytes) (e : enter_number book block ≡ 0) where
  enter_sound : sound book ≡ true
  unfolding enter_number neg
  enter_sound = split (sound book) (λ t. t) (λ t. absurd (let z : ◌≡◌ {A = ℕ} 1 0 = rw t at e in omega arith))

  enter_new : (neg (right_allowed (day_block book) block) or has (same_right block) (used book)) ≡ false
  unfolding enter_number neg
  enter_new = split (neg (right_allowed (day_block book) block) or has (same_right block) (used book))
      (λ t. absurd (let z : ◌≡◌ {A = ℕ} 40 0 = rw (enter_sound, t) at e in omega arith)) (λ t. t)

  enter_room : is (free_slots book) 0 ≡ false
  unfolding enter_number neg
  enter_room = split (is (free_slots book) 0) (λ t. absurd (let z : ◌≡◌ {A = ℕ} 17 0 = rw (enter_sound, enter_new, t) at e in omega arith)) (λ t. t)

  pub enters : Enters book block
  unfolding entered right_allowed
  enters =
      let r = neg_no _ (or_left _ _ enter_new) in
      let r2 = and_left _ _ r in
      let r1 = and_left _ _ r2 in
      let n : free_slots book ≡ 0 → ⊥ = is_no _ _ enter_room in
      record {
        was = sound_says book enter_sound;
        whole = is_yes _ _ (and_left _ _ r1);
        check = and_right _ _ r1;
        kind = and_right _ _ r2;
        right = and_right _ _ r;
        once = or_right _ _ enter_new;
        room = positive (free_slots book) n;
        result = rw (is_equal _ _ e);
      }
    where
      positive : (k : ℕ) → (k ≡ 0 → ⊥) → 0 < k
      positive k n = split (is k 0) (λ t. absurd (n (is_yes _ _ t))) (λ t. let m : k ≡ 0 → ⊥ = is_no _ _ t in omega arith)

-- ---- a holder has no two rights with the same areas, contract type and agreement: all else of a right but its limits is fixed

module _ (a b : Block) where
  joined : (o m n : ℕ) → part o m a ≡ part o m b → part (o + m) n a ≡ part (o + m) n b → part o (m + n) a ≡ part o (m + n) b
  joined o m n e f = part_add o m n a ∙ ap₂ ◌++◌ e f ∙ sym (part_add o m n b)

  -- zero bytes
  blank : (o n : ℕ) → o + n ≤ length a → o + n ≤ length b → zeros (part o n a) ≡ true → zeros (part o n b) ≡ true → part o n a ≡ part o n b
  blank o n h g e f = zeros_same (part o n a) (part o n b) (part_length o n a h ∙ sym (part_length o n b g)) e f

  module _ (d : Block) (la : length a ≡ 512) (lb : length b ≡ 512) (ka : is_right a ≡ true) (kb : is_right b ≡ true) (sa : right_sound d a ≡ true) (sb : right_sound d b ≡ true) where
    byte : (o : ℕ) → o < 512 → number 1 o a ≡ number 1 o b → part o 1 a ≡ part o 1 b
    byte o h e = single o a b (omega (arith, la)) (omega (arith, lb)) e

    pub same_but_limits : holder a ≡ holder b → (y : Block) → names y a ≡ true → names y b ≡ true → but_limits a ≡ but_limits b
    unfolding right_sound right_fields right_zeros with_capacity is_right kind n_of business_type contract_type in_area out_area in_party out_party agreement holder names but_limits
    same_but_limits e y na nb =
        let fa = and_left _ _ (and_left _ _ (and_left _ _ (and_left _ _ sa))) in
        let fb = and_left _ _ (and_left _ _ (and_left _ _ (and_left _ _ sb))) in
        let ga = and_left _ _ (and_left _ _ fa) in
        let gb = and_left _ _ (and_left _ _ fb) in
        let za = and_right _ _ fa in
        let zb = and_right _ _ fb in
        joined 0 1 107 (byte 0 (omega arith) (is_yes _ _ ka ∙ sym (is_yes _ _ kb)))
        (joined 1 1 106 (byte 1 (omega arith) (is_yes _ _ (and_left _ _ ga) ∙ sym (is_yes _ _ (and_left _ _ gb))))
        (joined 2 2 104 (blank 2 2 (omega (arith, la)) (omega (arith, lb)) (and_left _ _ (and_left _ _ za)) (and_left _ _ (and_left _ _ zb)))
        (joined 4 1 103 (byte 4 (omega arith) (is_yes _ _ (and_right _ _ ga) ∙ sym (is_yes _ _ (and_right _ _ gb))))
        (joined 5 1 102 (byte 5 (omega arith) (sym (is_yes _ _ (and_right _ _ (and_left _ _ na))) ∙ is_yes _ _ (and_right _ _ (and_left _ _ nb))))
        (joined 6 18 84 (blank 6 18 (omega (arith, la)) (omega (arith, lb)) (and_right _ _ (and_left _ _ za)) (and_right _ _ (and_left _ _ zb)))
        (joined 24 16 68 (sym (same_yes _ _ (and_left _ _ (and_left _ _ (and_left _ _ na)))) ∙ same_yes _ _ (and_left _ _ (and_left _ _ (and_left _ _ nb))))
        (joined 40 16 52 (sym (same_yes _ _ (and_right _ _ (and_left _ _ (and_left _ _ na)))) ∙ same_yes _ _ (and_right _ _ (and_left _ _ (and_left _ _ nb))))
        (joined 56 16 36 e
        (joined 72 16 20 (same_yes _ _ (and_right _ _ (and_left _ _ sa)) ∙ e ∙ sym (same_yes _ _ (and_right _ _ (and_left _ _ sb))))
        (joined 88 16 4 (sym (same_yes _ _ (and_right _ _ na)) ∙ same_yes _ _ (and_right _ _ nb))
        (blank 104 4 (omega (arith, la)) (omega (arith, lb)) (and_right _ _ za) (and_right _ _ zb))))))))))))

    pub same_right_named : holder a ≡ holder b → (y : Block) → names y a ≡ true → names y b ≡ true → same_right a b ≡ true
    unfolding same_right
    same_right_named e y na nb = and_both _ _ (and_both _ _ ka kb) (same_equal _ _ (same_but_limits e y na nb))

pub entering_refused : (book block : Bytes) → (enter_number book block ≡ 0 → ⊥) → entered book block ≡ book
unfolding entered
entering_refused book block f = rw (is_other _ _ f)
