-- The blocks before i are renewed; what becomes of a block is told by it alone, and block i, still as it was, has the number found for it.
use Rattle.laws.specs.Kit.{arith, ◌∙◌, []}
use Rattle.laws.specs.Cut.{cut}
use Rattle.laws.specs.Cut.Laws.{cut_length}
use Rattle.laws.specs.InPlace.{done_none, done_more_alone, done_all}
use Rattle.accept.specs.Steps.{renewed_with}
use Rattle.slots.proofs.Laws.{block_some}
use Rattle.slots.proofs.Laws.Lent.{cut_lent}
use Rattle.accept.proofs.Laws.Renewing.{number_of}
use Rattle.accept.proofs.renewal.renew_all.Goals as goal

pub loop-i-init : goal.loop-i-init
loop-i-init c = (omega arith, done_none _ _)

pub renew-requires : goal.renew-requires
renew-requires c =
    let f = renewed_with c.args.slot.0 c.args.kept.now (cut 512 c.args.series.now) in (
      omega arith,
      number_of f (cut 512 c.args.us.now) _ c.args.numbers.now c.requires.1 c.loop-i.i (omega (arith, cut_length 512 c.args.us.now)) (cut 512 c.loop-i.us) c.loop-i.invariant.1 _ c.wide-number.ensures _
          (block_some c.loop-i.us c.loop-i.i (omega arith)),
    )

pub loop-i-preserved : goal.loop-i-preserved
loop-i-preserved c =
    let f = renewed_with c.args.slot.0 c.args.kept.now (cut 512 c.args.series.now) in (
      omega arith,
      done_more_alone f (cut 512 c.args.us.now) c.loop-i.i [] (omega (arith, cut_length 512 c.args.us.now)) _ _ c.loop-i.invariant.1
          (cut_lent f c.loop-i.us c.loop-i.i (omega arith) c.renew.ensures (omega arith)),
    )

pub returns : goal.returns
returns c =
    c.loop-i.invariant.1 ∙ done_all _ _ c.loop-i.i (omega (arith, cut_length 512 c.args.us.now))
