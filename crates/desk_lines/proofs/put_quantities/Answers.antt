-- Behind the unit the first k quantities stand in the line, and the next goes behind them.
use Rattle.std.specs.Prelude.{◌≡◌, ◌∷◌}
use Rattle.laws.specs.Kit.{arith, ap}
use Rattle.paper.specs.Layout.{entry}
use Rattle.paper.specs.Listing.{text}
use Rattle.desk_lines.specs.Lines.{megawatts, quantities_text}
use Rattle.desk_text.specs.Put.Laws.{called, then}
use Rattle.desk_lines.proofs.Laws.{quantities_none, quantities_more}
use Rattle.std.proofs.Common.{rules}
use Rattle.desk_lines.proofs.put_quantities.Goals as goal

pub loop-k-init : goal.loop-k-init
loop-k-init c = (search rules, quantities_none _ _ _ c.put-place.ensures.fits)

pub loop-k-preserved : goal.loop-k-preserved
unfolding entry
loop-k-preserved c = (search rules, quantities_more _ _ c.loop-k.invariant.1 (called _ (ap (λ kw. 32 ∷ megawatts kw) c.number_4.ensures) c.put_megawatts-place.ensures))

pub returns : goal.returns
unfolding text
returns c = let e : c.loop-k.k ≡ c.args.n = omega (arith, c.loop-k.auto.k-end, c.loop-k-test.false) in then c.put-place.ensures (called _ (ap (quantities_text _) e) c.loop-k.invariant.1)
