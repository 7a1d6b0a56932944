-- A block that is another's trade with parties of the message's is found for it; any other finds nothing.
use Rattle.laws.specs.Kit.{arith, sym, ap, ◌∙◌, length, is, is_yes, is_no}
use Rattle.accept.proofs.Laws.Looking.{looked_absent, looked_no_series, looked_own, looked_other, first_length}
use Rattle.accept.proofs.looking.look.Goals as goal

pub trade_number-number-requires : goal.trade_number-number-requires
trade_number-number-requires c = (c.requires.1, c.requires.2)

pub returns-then-number-eq0 : goal.returns-then-number-eq0
returns-then-number-eq0 c =
    let e = c.trade_number-number.ensures in
    (looked_absent _ c.requires.1 _ _ e.0 _ _ _ c.requires.3 c.if-number-eq0.true, e.0, e.1, c.requires.3)

pub returns-then-not-is_series : goal.returns-then-not-is_series
returns-then-not-is_series c =
    let e = c.trade_number-number.ensures in
    (looked_no_series _ c.requires.1 _ _ e.0 _ _ _ c.requires.3 (sym c.is_series.ensures ∙ c.if-not-is_series.true), e.0, e.1, c.requires.3)

pub returns-then-eq : goal.returns-then-eq
unfolding is
returns-then-eq c =
    let e = c.trade_number-number.ensures in
    (looked_own _ c.requires.1 _ _ e.0 _ _ _ c.requires.3 (sym c.senders_slot.ensures ∙ is_yes _ _ (sym c.eq.ensures ∙ c.if-eq.true)), e.0, e.1, c.requires.3)

pub keep_first-requires : goal.keep_first-requires
keep_first-requires c =
    (omega (arith, c.if-number-eq0.false), c.trade_number-number.ensures.1, c.requires.0)

pub returns : goal.returns
unfolding is
returns c =
    let e = c.trade_number-number.ensures in (
      rw c.keep_first.ensures (looked_other _ c.requires.1 _ _ e.0 _ _ _ c.requires.3 c.if-number-eq0.false (sym c.is_series.ensures ∙ c.if-not-is_series.false) (λ q. is_no _ _ (sym c.eq.ensures ∙ c.if-eq.false) (c.senders_slot.ensures ∙ q))),
      e.0,
      e.1,
      ap length c.keep_first.ensures ∙ first_length _ _ _ ∙ c.requires.3,
    )
