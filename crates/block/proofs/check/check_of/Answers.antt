-- The first 508 bytes of a shorter block are the block.
use Rattle.laws.specs.Kit.{arith, sym, ap, ◌∙◌, le_of_lt, length-take, take_all}
use Rattle.paper.specs.Check.{check_from, check_of}
use Rattle.std.proofs.Common.{rules}
use Rattle.block.proofs.check.check_of.Goals as goal

pub returns-then-block-lt508 : goal.returns-then-block-lt508
unfolding check_of
returns-then-block-lt508 c = c.check_bytes.ensures ∙ ap (check_from 0) (sym (take_all 508 c.args.block.now (le_of_lt c.if-block-lt508.true)))

pub slice_bounds-check_bytes-end : goal.slice_bounds-check_bytes-end
slice_bounds-check_bytes-end c = simp length-take (omega arith)

pub returns : goal.returns
unfolding check_of
returns c = search rules
