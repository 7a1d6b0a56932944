-- The code asks the definition's two questions, and reads the digits that it counted.
use Rattle.laws.specs.Kit.{arith, ◌∙◌, length-take, and_no_left, and_no_right, upto_false}
use Rattle.laws.specs.Slices.{rest_slice}
use Rattle.quantity.proofs.Laws.Reading.{unsigned_refused, unsigned_read_lem}
use Rattle.quantity.proofs.unsigned_read.Goals as goal

pub returns-then-m-lt1 : goal.returns-then-m-lt1
returns-then-m-lt1 c =
    unsigned_refused _ _ c.leading_digits-m.ensures.0 (and_no_left _ _ (upto_false _ _ (omega arith)))

pub returns-then-m-gt4 : goal.returns-then-m-gt4
returns-then-m-gt4 c =
    unsigned_refused _ _ c.leading_digits-m.ensures.0 (and_no_right _ _ (upto_false _ _ (omega arith)))

pub decimal_from-w-requires : goal.decimal_from-w-requires
decimal_from-w-requires c = (simp length-take (omega arith), c.leading_digits-m.ensures.2)

pub returns : goal.returns
returns c =
    rw rest_slice at c.past_whole.ensures ∙ unsigned_read_lem _ _ c.leading_digits-m.ensures.0 (omega arith) (omega arith) _ c.decimal_from-w.ensures.0
