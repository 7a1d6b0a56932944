-- A block made of the parameters is sound exactly when each of them passes its own test.
use Rattle.std.specs.Prelude.{◌≡◌, ◌<◌}
use Rattle.laws.specs.Kit.{sym, ◌∙◌, Bool, true, ◌and◌, is, upto, split, clash, and_left, and_right, and_both, and_true, is_yes, is_equal}
use Rattle.paper.specs.Ranges.{n_allowed, lead_allowed, clock_allowed, rule_allowed}
use Rattle.paper.specs.Ids.{day_well_formed}
use Rattle.paper.specs.Eic.{eic_valid}
use Rattle.paper.specs.Sound.{day_fields, day_sound}
use Rattle.paper.specs.Opening.{Opening, day_block_of, opening_allowed}
use Rattle.facts.specs.Eic.{eic_length}
use Rattle.facts.specs.Calls.{day_block_of_rule}
use Rattle.opening.specs.Sized.{Sized}
use Rattle.opening.proofs.Laws.DayBlock.{kind_of, n_of_lem, lead_of, clock_of, day_of, area_of, receiver_of, zeros_of}

-- two tests that hold together are one
pub both : (a b : Bool) → (a ≡ true → b ≡ true) → (b ≡ true → a ≡ true) → a ≡ b
both a b f g = split a (λ e. e ∙ sym (f e)) (λ e. e ∙ split b (λ h. clash (g h) e) sym)

-- the parameters' tests, in the code's order
abbrev pub tested : Opening → Bool
tested o = n_allowed o.n and lead_allowed o.lead and day_well_formed o.day and rule_allowed o.rule and eic_valid o.area and eic_valid o.receiver

-- kind, clock and zeros pass of themselves
framed : (n l d u a r : Bool) → (true and n and l and true and d and u and a and r and true) ≡ (n and l and d and u and a and r)
unfolding ◌and◌
framed n l d u a r = rw (and_true (n and l), and_true (n and l and d and u and a and r))

day_sound_of : (o : Opening) → Sized o → o.lead < 65536 → day_sound (day_block_of o) ≡ tested o
unfolding day_sound day_fields clock_allowed is upto
day_sound_of o s h =
    rw
    (kind_of o s, n_of_lem o s, lead_of o s h, clock_of o s, day_block_of_rule o, day_of o s, area_of o s, receiver_of o s, zeros_of o s)
    (framed (n_allowed o.n) (lead_allowed o.lead) (day_well_formed o.day) (rule_allowed o.rule) (eic_valid o.area) (eic_valid o.receiver))

pub sized_allowed : (o : Opening) → opening_allowed o ≡ true → Sized o
unfolding opening_allowed
sized_allowed o e =
    let lengths = and_left _ _ (and_left _ _ e) in
    record {
      day_8 = is_yes _ _ (and_left _ _ (and_left _ _ lengths));
      area_16 = is_yes _ _ (and_right _ _ (and_left _ _ lengths));
      receiver_16 = is_yes _ _ (and_right _ _ lengths);
    }

sized_tested : (o : Opening) → tested o ≡ true → Sized o
unfolding day_well_formed
sized_tested o e =
    let codes = and_left _ _ e in
    record {
      day_8 = is_yes _ _ (and_left _ _ (and_right _ _ (and_left _ _ (and_left _ _ codes))));
      area_16 = eic_length _ (and_right _ _ codes);
      receiver_16 = eic_length _ (and_right _ _ e);
    }

pub opening_tested : (o : Opening) → o.lead < 65536 → tested o ≡ opening_allowed o
unfolding opening_allowed
opening_tested o h = both (tested o) (opening_allowed o) allowed (λ e. sym (day_sound_of o (sized_allowed o e) h) ∙ and_right _ _ e)
  where
    allowed : tested o ≡ true → opening_allowed o ≡ true
    allowed e =
        let s = sized_tested o e in
        let l : lead_allowed o.lead ≡ true = and_right _ _ (and_left _ _ (and_left _ _ (and_left _ _ (and_left _ _ e)))) in
        and_both _ _ (and_both _ _ (and_both _ _ (and_both _ _ (is_equal _ _ s.day_8) (is_equal _ _ s.area_16)) (is_equal _ _ s.receiver_16)) l) (day_sound_of o s h ∙ e)
