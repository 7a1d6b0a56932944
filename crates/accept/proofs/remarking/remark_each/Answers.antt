-- The blocks before i are marked anew, and every mark is worked out as from the blocks as they came: it reads nothing that a mark changes.
use Rattle.laws.specs.Kit.{arith, ◌∙◌}
use Rattle.laws.specs.Cut.{cut}
use Rattle.laws.specs.Cut.Laws.{cut_length}
use Rattle.laws.specs.InPlace.{done_none, done_all}
use Rattle.accept.proofs.Laws.Marking.{side_kept, partner_kept, marked_more, left_more}
use Rattle.accept.proofs.remarking.remark_each.Goals as goal
use Rattle.accept.proofs.remarking.remark_each.Goals.{then-is_touched, else-is_touched}

pub loop-i-init : goal.loop-i-init
loop-i-init c = (omega arith, done_none _ _)

pub partner_of-partner-requires : goal.partner_of-partner-requires
partner_of-partner-requires c =
    let s = side_kept _ _ (cut 512 c.args.us.now) _ c.loop-i.i (omega (arith, cut_length 512 c.args.us.now)) c.loop-i.invariant.1 _ _ _ c.requires.2 c.wide-number.ensures in
    s.few

pub remark-requires : goal.remark-requires
remark-requires c =
    let s = side_kept _ _ (cut 512 c.args.us.now) _ c.loop-i.i (omega (arith, cut_length 512 c.args.us.now)) c.loop-i.invariant.1 _ _ _ c.requires.2 c.wide-number.ensures in
    (omega (arith, c.loop-i.invariant.0), c.requires.0, partner_kept s c.block_at.ensures c.is_touched.ensures c.if-is_touched.true c.block_at-then-is_touched.ensures c.partner_of-partner.ensures)

pub loop-i-preserved : goal.loop-i-preserved
loop-i-preserved c = (
  elim c.if-is_touched.branch [
    | then-is_touched w ↦ rw w.us-is (w.remark.auto.us ∙ c.loop-i.invariant.0)
    | else-is_touched w ↦ rw w.us-is c.loop-i.invariant.0
  ],
  elim c.if-is_touched.branch [
    | then-is_touched w ↦ rw w.us-is (marked_more _ _ (cut 512 c.args.us.now) _ c.loop-i.i (omega (arith, cut_length 512 c.args.us.now)) c.loop-i.invariant.1 _ _ _ c.requires.2 c.wide-number.ensures c.block_at.ensures c.is_touched.ensures w.if-is_touched.true w.remark.ensures)
    | else-is_touched w ↦ rw w.us-is (left_more _ _ (cut 512 c.args.us.now) _ c.loop-i.i (omega (arith, cut_length 512 c.args.us.now)) c.loop-i.invariant.1 _ _ _ c.requires.2 c.wide-number.ensures c.block_at.ensures c.is_touched.ensures w.if-is_touched.false)
  ],
)

pub returns : goal.returns
returns c =
    c.loop-i.invariant.1 ∙ done_all _ _ c.loop-i.i (omega (arith, cut_length 512 c.args.us.now))
