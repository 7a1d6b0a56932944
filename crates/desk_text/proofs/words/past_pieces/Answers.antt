-- The pieces still to pass, of what is left, leave what all of them leave from the start.
use Rattle.laws.specs.Kit.{refl}
use Rattle.desk_text.proofs.Laws.{pieces_turn, pieces_end}
use Rattle.desk_text.proofs.words.past_pieces.Goals as goal

pub loop-left-init : goal.loop-left-init
loop-left-init c = refl

pub loop-left-preserved : goal.loop-left-preserved
loop-left-preserved c = pieces_turn _ _ _ _ c.loop-left-test.true c.past_piece-rest.ensures c.loop-left.invariant

pub returns : goal.returns
returns c = pieces_end _ _ _ c.loop-left-test.false c.loop-left.invariant
