-- Nothing, or the letter and then the two digits.
use Rattle.laws.specs.Kit.{is_equal, is_other}
use Rattle.paper.specs.Listing.{text}
use Rattle.desk_text.specs.Pieces.{code_text}
use Rattle.desk_text.specs.Put.Laws.{then}
use Rattle.desk_text.proofs.pieces.put_code.Goals as goal

pub returns-then-code-eq0 : goal.returns-then-code-eq0
unfolding code_text
returns-then-code-eq0 c = rw (is_equal _ _ c.if-code-eq0.true) c.put.ensures

pub returns : goal.returns
unfolding code_text text
returns c = rw (is_other _ _ c.if-code-eq0.false) (then c.put-behind.ensures c.put_digits.ensures)
