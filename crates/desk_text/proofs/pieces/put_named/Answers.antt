-- Nothing, or the word and the number.
use Rattle.laws.specs.Kit.{is_equal, is_other}
use Rattle.desk_text.specs.Pieces.{named}
use Rattle.desk_text.proofs.pieces.put_named.Goals as goal

pub returns-then-x-eq0 : goal.returns-then-x-eq0
unfolding named
returns-then-x-eq0 c = rw (is_equal _ _ c.if-x-eq0.true) c.put.ensures

pub returns : goal.returns
unfolding named
returns c = rw (is_other _ _ c.if-x-eq0.false) c.put_worded.ensures
