-- A block that is no trade names no party; a trade names its in party and then its out party, each of which has its line unless it has appeared.
use Rattle.laws.specs.Kit.{arith, ◌or◌}
use Rattle.settling.proofs.Laws.{inside}
use Rattle.settlement_text.proofs.Laws.{named_none, named_both, filled_as}
use Rattle.laws.specs.Kit.{◌∙◌}
use Rattle.laws.specs.Kit.{sym}
use Rattle.settlement_text.proofs.put_parties.Goals as goal

pub returns-then-not-is_trade_series : goal.returns-then-not-is_trade_series
returns-then-not-is_trade_series c =
    let p = c.requires in
    (λ begun x f. filled_as _ _ _ f (named_none _ _ (inside _ _ p.1) c.block_at-x.ensures (sym c.is_trade_series.ensures ∙ c.if-not-is_trade_series.true)), omega arith, omega arith)

pub put_unless-sheet-requires : goal.put_unless-sheet-requires
put_unless-sheet-requires c =
    let p = c.requires in
    (p.0, omega (arith, p.2), omega (arith, p.3))

pub put_unless-requires : goal.put_unless-requires
put_unless-requires c =
    let p = c.requires in
    (p.0, omega (arith, p.2, c.put_unless-sheet.ensures.1), omega (arith, p.3, c.put_unless-sheet.ensures.2))

pub returns : goal.returns
unfolding ◌or◌
returns c =
    let p = c.requires in (
      λ begun x f. filled_as _ _ _ (c.put_unless.ensures.0 _ begun x (c.put_unless-sheet.ensures.0 _ begun x f))
          (named_both _ _ (inside _ _ p.1) c.block_at-x.ensures (sym c.is_trade_series.ensures ∙ c.if-not-is_trade_series.false) c.in_party-buyer.ensures c.out_party-seller.ensures c.appears.ensures c.appears-2.ensures c.same.ensures),
      omega (arith, c.put_unless-sheet.ensures.1, c.put_unless.ensures.1),
      omega (arith, c.put_unless-sheet.ensures.2, c.put_unless.ensures.2),
    )
