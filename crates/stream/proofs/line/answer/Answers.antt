-- What is told is at least one number; a malformed record has no line.
use Rattle.std.specs.Prelude.{◌≡◌, ◌<◌}
use Rattle.laws.specs.Kit.{arith, length, is, is_other}
use Rattle.desk_text.specs.Put.Laws.{none}
use Rattle.stream.specs.Told.{numbers_of}
use Rattle.stream.specs.Line.{told_line}
use Rattle.stream.proofs.line.answer.Goals as goal

pub returns-in_err-told : goal.returns-in_err-told
unfolding told_line is
returns-in_err-told c = rw (c.from_residual.ensures, c.in_err-told.was) (none 0 _ (omega arith))

pub returns : goal.returns
unfolding told_line
returns c =
    let t = c.in_ok-told.told in
    let some : length (numbers_of t) ≡ 0 → ⊥ = let h : 0 < length (numbers_of t) = rw c.numbers.ensures.0 at c.numbers.ensures.1 in λ e. omega arith in
    rw (c.in_ok-told.was, is_other _ _ some) (rw c.numbers.ensures.0 at c.answer_with.ensures)
