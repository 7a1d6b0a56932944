-- The code asks the definition's three questions in its order.
use Rattle.laws.specs.Kit.{◌∙◌, and_no_left, and_no_right, upto_false}
use Rattle.desk_text.proofs.Digits.{read_not, read_number}
use Rattle.laws.specs.Kit.{sym}
use Rattle.std.proofs.Common.{rules, tests}
use Rattle.desk_text.proofs.numbers.number_read.Goals.{then-is_empty-via-then-is_empty, then-is_empty-via-else-is_empty+then-s-gt5, then-is_empty-via-else-is_empty+else-s-gt5+then-not-all_digits}
use Rattle.desk_text.proofs.numbers.number_read.Goals as goal

pub returns-then-is_empty : goal.returns-then-is_empty
returns-then-is_empty c = elim c.then-is_empty.branch [
  | then-is_empty-via-then-is_empty w ↦ read_not _ (and_no_left _ _ (and_no_left _ _ (upto_false _ _ (search (rules, tests)))))
  | then-is_empty-via-else-is_empty+then-s-gt5 w ↦ read_not _ (and_no_left _ _ (and_no_right _ _ (upto_false _ _ w.if-s-gt5.true)))
  | then-is_empty-via-else-is_empty+else-s-gt5+then-not-all_digits w ↦ read_not _ (and_no_right _ _ (sym w.all_digits.ensures ∙ w.if-not-all_digits.true))
]

pub decimal_from-requires : goal.decimal_from-requires
decimal_from-requires c = (search rules, (sym c.all_digits.ensures ∙ c.if-not-all_digits.false))

pub returns : goal.returns
returns c =
    read_number _ (search (rules, tests)) (search rules) (sym c.all_digits.ensures ∙ c.if-not-all_digits.false) _ c.decimal_from.ensures.0
