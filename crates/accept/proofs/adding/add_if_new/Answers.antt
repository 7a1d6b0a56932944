-- A series that has no place among the stored ones goes to the lowest free slot; any other is left for the renewal.
use Rattle.laws.specs.Kit.{arith, ap, length}
use Rattle.laws.specs.Cut.{cut}
use Rattle.laws.specs.Cut.Laws.{cut_length}
use Rattle.paper.specs.Layout.{with_senders_slot}
use Rattle.slots.proofs.Laws.Lent.{cut_lent}
use Rattle.accept.proofs.Laws.Laying.{laid_none, laid_one}
use Rattle.accept.proofs.Laws.Adding.{added_yes, added_no}
use Rattle.accept.proofs.adding.add_if_new.Goals as goal

pub slice_bounds-write_series-end : goal.slice_bounds-write_series-end
slice_bounds-write_series-end c =
    omega (arith, ap length (added_yes c.args.slot.0 c.args.place c.args.y.now c.if-place-eq0.true))

pub returns-then-place-eq0 : goal.returns-then-place-eq0
returns-then-place-eq0 c =
    let f = added_yes c.args.slot.0 c.args.place c.args.y.now c.if-place-eq0.true in
    let y = with_senders_slot c.args.slot.0 c.args.y.now in
    rw f
    (laid_one c.args.next (cut 512 c.args.slots.now) y (omega (arith, ap length f, cut_length 512 c.args.slots.now))
    (cut_lent (λ x. y) c.args.slots.now c.args.next (omega (arith, ap length f)) c.write_series.ensures (omega arith)))

pub returns : goal.returns
returns c =
    rw (added_no c.args.slot.0 c.args.place c.args.y.now c.if-place-eq0.false)
    (laid_none c.args.next (cut 512 c.args.slots.now) (omega (arith, cut_length 512 c.args.slots.now)))
