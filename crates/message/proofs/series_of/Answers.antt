-- The part from 512 that may be as long as the whole goes to the end.
use Rattle.laws.specs.Kit.{◌∙◌, ap, arith}
use Rattle.laws.specs.Bytes.Laws.{part_rest}
use Rattle.laws.specs.Cut.{cut}
use Rattle.paper.specs.Message.{series_of}
use Rattle.message.proofs.series_of.Goals as goal

pub returns : goal.returns
unfolding series_of
returns c = ap (cut 512) (c.part_of.ensures ∙ part_rest 512 _ _ (omega arith))
