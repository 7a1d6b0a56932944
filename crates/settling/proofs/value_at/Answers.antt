-- A block that is no trade has no value, and a pair that an earlier slot has is counted there; the quantity of the block's own sender is the buyer's or the seller's.
use Rattle.laws.specs.Kit.{sym, ap, ap₂, ◌∙◌}
use Rattle.paper.specs.Marks.{counterpart_slot}
use Rattle.paper.specs.Finals.{final_of}
use Rattle.paper.specs.Settled.{is_trade_series}
use Rattle.settling.proofs.Laws.{inside, not_counted, counted_earlier, counted_here, value_of_buyers, value_of_sellers}
use Rattle.settling.proofs.value_at.Goals as goal

pub returns-then-not-is_trade_series : goal.returns-then-not-is_trade_series
returns-then-not-is_trade_series c =
    not_counted _ _ _ (ap is_trade_series (sym c.block_at-x.ensures) ∙ (sym c.is_trade_series.ensures ∙ c.if-not-is_trade_series.true))

pub returns-then-ne-partner : goal.returns-then-ne-partner
returns-then-ne-partner c =
    let p = c.requires in
    let e = c.block_at-x.ensures in
    counted_earlier _ p.1 _ (inside _ _ p.3) (ap is_trade_series (sym e) ∙ (sym c.is_trade_series.ensures ∙ c.if-not-is_trade_series.false)) _
    (c.counterpart_slot-partner.ensures ∙ ap (counterpart_slot _) e) _ (rw c.ne.ensures at c.if-ne-partner.true)

pub returns-then-is_buyers : goal.returns-then-is_buyers
returns-then-is_buyers c =
    let p = c.requires in
    let e = c.block_at-x.ensures in
    let h = inside _ _ p.3 in
    let t = ap is_trade_series (sym e) ∙ (sym c.is_trade_series.ensures ∙ c.if-not-is_trade_series.false) in
    let q = c.counterpart_slot-partner.ensures ∙ ap (counterpart_slot _) e in
    counted_here _ p.1 _ h t _ q _ (rw c.ne.ensures at c.if-ne-partner.false)
    (c.final_of.ensures ∙ ap₂ (final_of _) c.held_at-others.ensures c.held_at-own.ensures
    ∙ value_of_buyers _ p.1 _ h t _ q _ _ e c.is_buyers.ensures c.if-is_buyers.true)

pub returns : goal.returns
returns c =
    let p = c.requires in
    let e = c.block_at-x.ensures in
    let h = inside _ _ p.3 in
    let t = ap is_trade_series (sym e) ∙ (sym c.is_trade_series.ensures ∙ c.if-not-is_trade_series.false) in
    let q = c.counterpart_slot-partner.ensures ∙ ap (counterpart_slot _) e in
    counted_here _ p.1 _ h t _ q _ (rw c.ne.ensures at c.if-ne-partner.false)
    (c.final_of-2.ensures ∙ ap₂ (final_of _) c.held_at-own.ensures c.held_at-others.ensures
    ∙ value_of_sellers _ p.1 _ h t _ q _ _ e c.is_buyers.ensures c.if-is_buyers.false)
