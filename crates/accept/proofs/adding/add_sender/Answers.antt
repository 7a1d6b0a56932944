-- A sender that has no slot yet gets the lowest free one; for one that has its slot nothing is written.
use Rattle.laws.specs.Kit.{arith, sym, ap, ◌∙◌, length, is, is_yes, is_no}
use Rattle.laws.specs.Bytes.Laws.{written_all}
use Rattle.laws.specs.Cut.{cut}
use Rattle.laws.specs.Cut.Laws.{cut_length}
use Rattle.slots.proofs.Laws.Lent.{cut_lent}
use Rattle.accept.proofs.Laws.Laying.{laid_none, laid_one}
use Rattle.accept.proofs.Laws.Adding.{sender_new, sender_known}
use Rattle.accept.proofs.adding.add_sender.Goals as goal

pub slice_bounds-write_bytes-end : goal.slice_bounds-write_bytes-end
unfolding is
slice_bounds-write_bytes-end c =
    omega (arith, ap length (sender_new c.args.had.0 c.args.kept.now (is_yes _ _ (sym c.eq.ensures ∙ c.if-eq.true))))

pub returns-then-eq : goal.returns-then-eq
unfolding is
returns-then-eq c =
    let y = c.args.kept.now in
    let e = sender_new c.args.had.0 y (is_yes _ _ (sym c.eq.ensures ∙ c.if-eq.true)) in
    rw e
    (laid_one c.args.used (cut 512 c.args.slots.now) y (omega (arith, ap length e, cut_length 512 c.args.slots.now))
    (cut_lent (λ x. y) c.args.slots.now c.args.used (omega (arith, ap length e)) (c.write_bytes.ensures ∙ written_all _ _ (omega arith)) (omega arith)))

pub returns : goal.returns
unfolding is
returns c =
    rw (sender_known c.args.had.0 c.args.kept.now (is_no _ _ (sym c.eq.ensures ∙ c.if-eq.false)))
    (laid_none c.args.used (cut 512 c.args.slots.now) (omega (arith, cut_length 512 c.args.slots.now)))
