-- The block comes back with its mark worked out afresh.
use Rattle.laws.specs.Kit.{arith, sym, ap, ◌∙◌}
use Rattle.laws.specs.Cut.{cut}
use Rattle.paper.specs.Layout.{with_mark}
use Rattle.paper.specs.Marks.{counterpart_slot}
use Rattle.slots.proofs.Laws.Lent.{cut_lent}
use Rattle.accept.proofs.remarking.remark.Goals as goal

pub mark_with-m-requires : goal.mark_with-m-requires
mark_with-m-requires c =
    (c.requires.1, c.requires.2 ∙ sym (ap (counterpart_slot (cut 512 c.args.us.now)) c.block_at.ensures))

pub returns : goal.returns
returns c =
    cut_lent (with_mark c.mark_with-m.result) c.args.us.now c.args.i c.requires.0 c.write_mark.ensures (omega arith)
    ∙ rw (c.mark_with-m.ensures, c.block_at.ensures)
