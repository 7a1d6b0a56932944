-- What the two rules choose: the lesser is the greatest number that is above neither side, so that a lone side settles at 0; by the seller's rule a book has the finals that it
-- had before a rule was named, and a day block of that time names it.
use Rattle.std.specs.Prelude.{◌≡◌, ◌++◌, ◌-◌, ◌≤◌}
use Rattle.laws.specs.Base.{refl, ap, ◌∙◌, Bool, true, false, true≢false, cond, Option, none, some, List, ℕ, arith, le_refl}
use Rattle.laws.specs.Tests.{◌and◌, ◌or◌, neg, is, less}
use Rattle.laws.specs.Tests.Laws.{split, and_left, and_right, and_both, or_else, is_yes, less_yes, less_no}
use Rattle.laws.specs.Bytes.{part, number}
use Rattle.paper.specs.declared.FinalAnswer.{FinalAnswer}
use Rattle.paper.specs.declared.Rule.{Rule}
use Rattle.paper.specs.Layout.{Bytes, Block, zeros, n_of, rule_of, sellers_rule, lesser_rule, same_rule, area, receiver, day_zeros}
use Rattle.paper.specs.Ranges.{rule_allowed}
use Rattle.paper.specs.Eic.{eic_valid}
use Rattle.paper.specs.Sound.{day_fields, day_sound}
use Rattle.paper.specs.Rules.{closed}
use Rattle.paper.specs.Finals.{lesser_of, final_of, held, is_held, held_at, final_refused, final_in}
use Rattle.paper.specs.Opening.{naming_none}
use Rattle.facts.specs.Layout.{zeros_inner, value_zeros, entry_nothing, rule_by_byte}

-- ---- the lesser of two quantities

module _ (sellers buyers : ℕ) where
  pub lesser_below_sellers : lesser_of sellers buyers ≤ sellers
  unfolding lesser_of
  lesser_below_sellers = split (less buyers sellers) (λ t. rw t (omega (arith, less_yes buyers sellers t))) (λ t. rw t (le_refl sellers))

  pub lesser_below_buyers : lesser_of sellers buyers ≤ buyers
  unfolding lesser_of
  lesser_below_buyers = split (less buyers sellers) (λ t. rw t (le_refl buyers)) (λ t. rw t (less_no buyers sellers t))

  pub lesser_greatest : (k : ℕ) → k ≤ sellers → k ≤ buyers → k ≤ lesser_of sellers buyers
  unfolding lesser_of
  lesser_greatest k s b = split (less buyers sellers) (λ t. rw t b) (λ t. rw t s)

  -- ---- what each rule chooses

  pub final_by_sellers : final_of sellers_rule sellers buyers ≡ sellers
  unfolding final_of same_rule is
  final_by_sellers = refl

  pub final_by_lesser : final_of lesser_rule sellers buyers ≡ lesser_of sellers buyers
  unfolding final_of same_rule is
  final_by_lesser = refl

-- a lone side, the other counting 0
pub lone_seller : (sellers : ℕ) → final_of lesser_rule sellers 0 ≡ 0
lone_seller sellers = final_by_lesser sellers 0 ∙ omega (arith, lesser_below_buyers sellers 0)

pub lone_buyer : (buyers : ℕ) → final_of lesser_rule 0 buyers ≡ 0
lone_buyer buyers = final_by_lesser 0 buyers ∙ omega (arith, lesser_below_sellers 0 buyers)

-- ---- which rules there are

-- "Soundness admits 0 and 1 there"
pub no_third_rule : (rule : Rule) → rule_allowed rule ≡ true → rule.0 ≤ 1
unfolding rule_allowed same_rule
no_third_rule rule e = split (is rule.0 0)
    (λ t. omega (arith, is_yes rule.0 0 t))
    (λ t. omega (arith, is_yes rule.0 1 (or_else _ _ e t)))

-- and byte 7 stays 0
pub byte_7_is_0 : (day : Block) → day_zeros day ≡ true → number 1 7 day ≡ 0
unfolding day_zeros number
byte_7_is_0 day e = value_zeros (part 7 1 day) (and_left _ _ (and_left _ _ e))

-- "an open call that names none writes 1"
pub none_named : (n lead : ℕ) (day area receiver : Bytes) → (naming_none n lead day area receiver).rule ≡ lesser_rule
none_named n lead day area receiver = refl

-- ---- a trade that the buyer does not keep, by the lesser rule: whatever the answer's number is, its value is 0

missing_counts_0 : (k : ℕ) → held_at none k ≡ 0
unfolding held_at
missing_counts_0 k = entry_nothing k

-- where neither side has a series, both count 0
pub nothing_held : (rule : Rule) (k : ℕ) (sellers buyers : Option Bytes) → is_held sellers ≡ false → is_held buyers ≡ false → final_of rule (held_at sellers k) (held_at buyers k) ≡ 0
unfolding is_held final_of lesser_of
nothing_held rule k none none s b = rw (missing_counts_0 k) (split (same_rule rule lesser_rule) (λ t. rw t (split (less 0 0) (λ u. rw u) (λ u. rw u))) (λ t. rw t))
nothing_held rule k none (some q) s b = absurd (true≢false b)
nothing_held rule k (some q) buyers s b = absurd (true≢false s)

pub lone_seller_final : (day : Block) (us : List Block) (seller buyer : Bytes) (position : ℕ) → rule_of day ≡ lesser_rule → held us buyer (buyer ++ seller) ≡ none
    → (final_in day us seller buyer position).kilowatts ≡ 0
unfolding final_in neg
lone_seller_final day us seller buyer position e h = split (is position 0 or less (n_of day) position)
    (λ t. rw t)
    (λ t. split (closed day position)
    (λ c. split (is_held (held us seller (buyer ++ seller)) or is_held (held us buyer (buyer ++ seller)))
    (λ w. rw (t, c, w, e) (ap (λ o. final_of lesser_rule (held_at (held us seller (buyer ++ seller)) (position - 1)) (held_at o (position - 1))) h
    ∙ ap (final_of lesser_rule (held_at (held us seller (buyer ++ seller)) (position - 1))) (missing_counts_0 (position - 1)) ∙ lone_seller _))
    (λ w. rw (t, c, w)))
    (λ c. rw (t, c)))

-- ---- "Books already on file have 0 and keep their finals"

-- a sound day block and a final value as they were before a rule was named: bytes 6 and 7 are 0, the seller's quantity is final
unfoldable pub day_sound_before : (day : Block) → Bool
day_sound_before day = day_fields day and eic_valid (area day) and eic_valid (receiver day) and (zeros (part 6 2 day) and zeros (part 16 8 day) and zeros (part 56 452 day))

unfoldable pub final_before : (day : Block) (us : List Block) (seller : Bytes) (buyer : Bytes) (position : ℕ) → FinalAnswer
final_before day us seller buyer position =
    cond (is position 0 or less (n_of day) position) (final_refused 24)
    (cond (neg (closed day position)) (final_refused 25)
    (cond (neg (is_held (held us seller (buyer ++ seller)) or is_held (held us buyer (buyer ++ seller)))) (final_refused 26)
    (record { number = 0; kilowatts = held_at (held us seller (buyer ++ seller)) (position - 1) })))

module _ (day : Block) where
  rule_on_file : zeros (part 6 2 day) ≡ true → rule_of day ≡ sellers_rule
  unfolding number
  rule_on_file e = rule_by_byte day sellers_rule (value_zeros (part 6 1 day) (zeros_inner 6 2 0 1 day (omega arith) e))

  sellers_allowed : rule_of day ≡ sellers_rule → rule_allowed (rule_of day) ≡ true
  unfolding rule_allowed same_rule is ◌or◌
  sellers_allowed e = rw e

  pub on_file_sound : day_sound_before day ≡ true → (day_sound day ≡ true) × (rule_of day ≡ sellers_rule)
  unfolding day_sound_before day_sound day_zeros
  on_file_sound e =
      let z = and_right _ _ e in
      let six = and_left _ _ (and_left _ _ z) in
      let r = rule_on_file six in
      let codes = and_left _ _ e in (
        and_both _ _
            (and_both _ _ (and_both _ _ (and_both _ _ (and_left _ _ (and_left _ _ codes)) (sellers_allowed r)) (and_right _ _ (and_left _ _ codes))) (and_right _ _ codes))
            (and_both _ _ (and_both _ _ (zeros_inner 6 2 1 1 day (omega arith) six) (and_right _ _ (and_left _ _ z))) (and_right _ _ z)),
        r,
      )

  pub on_file_final : (us : List Block) (seller buyer : Bytes) (position : ℕ) → rule_of day ≡ sellers_rule → final_in day us seller buyer position ≡ final_before day us seller buyer position
  unfolding final_in final_of same_rule is final_before
  on_file_final us seller buyer position e = rw e
