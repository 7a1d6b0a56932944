-- The code asks whether there is a quantity, and the buffer shown is the one printed into.
use Rattle.laws.specs.Kit.{arith, less_true, less_false}
use Rattle.laws.specs.Slices.{rest_slice}
use Rattle.desk_text.specs.Put.Laws.{none}
use Rattle.replay_answers.specs.Answers.{print_told, print_line}
use Rattle.replay_answers.proofs.shown.print.Goals as goal

pub returns-then-body-lt4 : goal.returns-then-body-lt4
unfolding print_line
returns-then-body-lt4 c = rw (less_true _ _ c.if-body-lt4.true) (none 0 _ (omega arith))

pub returns : goal.returns
unfolding print_line print_told
returns c =
    rw (less_false _ _ c.if-body-lt4.false)
    (rw (c.quantity_print-p.ensures.0, c.quantity_print-p.ensures.1, c.number_4-kilowatts.ensures, rest_slice 4 _) at c.answer_with.ensures)
