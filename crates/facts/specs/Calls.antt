-- What an accepted clock move and an accepted opening say, as records.
use Rattle.std.specs.Prelude.{◌≡◌, ◌++◌, ◌-◌, ◌/◌, ◌%◌, ◌≤◌}
use Rattle.laws.specs.Base.{sym, ap, ◌∙◌, true, false, ℕ, arith, length, drop, replicate, length-append, length-replicate}
use Rattle.laws.specs.Tests.{◌or◌, neg, less}
use Rattle.laws.specs.Tests.Laws.{split, and_left, and_right, and_no_left, and_no_right, or_left, or_right, neg_no, is_yes, is_equal, less_no, upto_yes}
use Rattle.laws.specs.Bytes.{part, value, little, number}
use Rattle.laws.specs.Bytes.Laws.{little_length}
use Rattle.paper.specs.Check.{check_right}
use Rattle.paper.specs.Layout.{Bytes, clock_plus_10080, rule_of, area, receiver, with_clock}
use Rattle.paper.specs.Ranges.{whole_blocks, clock_allowed, rule_allowed}
use Rattle.paper.specs.Book.{day_block}
use Rattle.paper.specs.Sound.{day_sound, sound}
use Rattle.paper.specs.Opening.{Opening, day_block_of, opening_allowed, open_number, opened}
use Rattle.paper.specs.Clock.{day_state, advanced, clock_answer, clock_moved}
use Rattle.facts.specs.Check.{sealed_length, sealed_right, part_sealed}
use Rattle.facts.specs.Layout.{rule_by_byte}
use Rattle.facts.specs.Sound.{Sound, sound_says}

-- ---- an accepted clock move

pub record Moves (book : Bytes) (minute : ℕ) : Type 0 where
  pub was : Sound book
  pub later : clock_plus_10080 (day_block book) ≤ minute
  pub most : minute ≤ 11580
  pub result : clock_moved book minute ≡ with_clock minute (day_block book) ++ drop 512 book

clock_range : (book : Bytes) (minute : ℕ) → sound book ≡ true → (clock_answer book minute).number ≡ 0 → (less minute (clock_plus_10080 (day_block book)) or neg
    (clock_allowed minute)) ≡ false
unfolding clock_answer advanced day_state
clock_range book minute s e = split (less minute (clock_plus_10080 (day_block book)) or neg (clock_allowed minute))
    (λ t. absurd (let z : ◌≡◌ {A = ℕ} 22 0 = rw (s, t) at e in omega arith)) (λ t. t)

clock_sound : (book : Bytes) (minute : ℕ) → sound book ≡ false → (clock_answer book minute).number ≡ 0 → ⊥
unfolding clock_answer
clock_sound book minute s e = let z : ◌≡◌ {A = ℕ} 1 0 = rw s at e in omega arith

pub moves : (book : Bytes) (minute : ℕ) → (clock_answer book minute).number ≡ 0 → Moves book minute
unfolding clock_moved clock_allowed
moves book minute e = split (sound book)
    (λ s.
    let r = clock_range book minute s e in
    record {
      was = sound_says book s;
      later = less_no _ _ (or_left _ _ r);
      most = upto_yes _ _ (neg_no _ (or_right _ _ r));
      result = rw (is_equal _ _ e);
    })
    (λ s. absurd (clock_sound book minute s e))

-- ---- an accepted opening

pub record Opens (book : Bytes) (o : Opening) : Type 0 where
  pub whole : length book % 512 ≡ 0
  pub least : 2 ≤ length book / 512
  pub most : length book / 512 ≤ 1001
  pub day_length : length (day_block_of o) ≡ 512
  pub check : check_right (day_block_of o) ≡ true
  pub day : day_sound (day_block_of o) ≡ true
  pub rule : rule_of (day_block_of o) ≡ o.rule
  pub result : opened book o ≡ day_block_of o ++ replicate (length book - 512) 0

day_block_of_length : (o : Opening) → opening_allowed o ≡ true → length (day_block_of o) ≡ 512
unfolding opening_allowed day_block_of
day_block_of_length o e =
    let l1 : length o.day ≡ 8 = is_yes _ _ (and_left _ _ (and_left _ _ (and_left _ _ (and_left _ _ e)))) in
    let l2 : length o.area ≡ 16 = is_yes _ _ (and_right _ _ (and_left _ _ (and_left _ _ (and_left _ _ e)))) in
    let l3 : length o.receiver ≡ 16 = is_yes _ _ (and_right _ _ (and_left _ _ (and_left _ _ e))) in
    sealed_length _ ∙ simp (length-append, length-replicate, little_length) (omega arith)

day_block_of_right : (o : Opening) → length (day_block_of o) ≡ 512 → check_right (day_block_of o) ≡ true
unfolding day_block_of
day_block_of_right o e = sealed_right _ (sym (sealed_length _) ∙ e)

rule_byte : (o : Opening) → number 1 6 (day_block_of o) ≡ o.rule.0
unfolding day_block_of number part value little
rule_byte o = ap value (part_sealed 6 1 _ (omega arith)) ∙ omega arith

-- the rule that an opening names is the one written
pub day_block_of_rule : (o : Opening) → rule_of (day_block_of o) ≡ o.rule
day_block_of_rule o = rule_by_byte (day_block_of o) o.rule (rule_byte o)

opening_passed : (book : Bytes) (o : Opening) → open_number book o ≡ 0 → (whole_blocks 2 1001 book ≡ true) × (opening_allowed o ≡ true)
unfolding open_number neg
opening_passed book o e = split (whole_blocks 2 1001 book)
    (λ t. split (opening_allowed o) (λ u. (t, u)) (λ u. absurd (let z : ◌≡◌ {A = ℕ} 21 0 = rw (t, u) at e in omega arith)))
    (λ t. absurd (let z : ◌≡◌ {A = ℕ} 20 0 = rw t at e in omega arith))

pub opens : (book : Bytes) (o : Opening) → open_number book o ≡ 0 → Opens book o
unfolding whole_blocks opened opening_allowed
opens book o e =
    let q = opening_passed book o e in
    let l : length (day_block_of o) ≡ 512 = day_block_of_length o q.1 in
    record {
      whole = is_yes _ _ (and_left _ _ (and_left _ _ q.0));
      least = upto_yes _ _ (and_right _ _ (and_left _ _ q.0));
      most = upto_yes _ _ (and_right _ _ q.0);
      day_length = l;
      check = day_block_of_right o l;
      day = and_right _ _ q.1;
      rule = day_block_of_rule o;
      result = rw (is_equal _ _ e);
    }

-- ---- an opening that names another rule than the two

rule_not_allowed : (o : Opening) → rule_allowed o.rule ≡ false → opening_allowed o ≡ false
unfolding opening_allowed day_sound
rule_not_allowed o e = and_no_right _ _ (and_no_left _ _ (and_no_left _ _ (and_no_left _ _ (and_no_right _ _ (ap rule_allowed (day_block_of_rule o) ∙ e)))))

-- "another byte in open is 21", after 20
pub other_rule_refused : (book : Bytes) (o : Opening) → whole_blocks 2 1001 book ≡ true → rule_allowed o.rule ≡ false → open_number book o ≡ 21
unfolding open_number neg
other_rule_refused book o w e = rw (w, rule_not_allowed o e)
