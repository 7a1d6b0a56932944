-- The two differences do not fall below 0 in their ranges.
use Rattle.std.specs.Prelude.{◌≡◌, ◌≤◌, ◌+◌, ◌-◌}
use Rattle.laws.specs.Kit.{sym, ◌∙◌, arith, ℕ}
use Rattle.paper.specs.Eic.{character_value}
use Rattle.eic.proofs.Laws.{digit_from, letter_from}
use Rattle.eic.proofs.character_value.Goals as goal
use Rattle.eic.proofs.character_value.Goals.{then-letter, else-letter, then-hyphen, else-hyphen}

-- ten are worth less than A
from_a : (x : ℕ) → 65 ≤ x → x - 65 + 10 ≡ x - 55
from_a x h = omega arith

pub overflow_sub-value : goal.overflow_sub-value
unfolding character_value
overflow_sub-value c = omega (arith, (letter_from _ (sym c.letter.ensures ∙ c.if-letter.true)).0)

pub overflow_sub-value-then-digit : goal.overflow_sub-value-then-digit
unfolding character_value
overflow_sub-value-then-digit c = omega (arith, (digit_from _ (sym c.digit.ensures ∙ c.if-digit.true)).0)

pub returns-then-digit : goal.returns-then-digit
unfolding character_value
returns-then-digit c = rw (sym c.digit.ensures ∙ c.if-digit.true)

-- what was laid before the last test
pub returns-else-digit : goal.returns-else-digit
unfolding character_value
returns-else-digit c =
    let no_digit = sym c.digit.ensures ∙ c.if-digit.false in
    elim c.if-letter.branch [
      | then-letter w ↦ w.value-is ∙ from_a _ (letter_from _ (sym c.letter.ensures ∙ w.if-letter.true)).0 ∙ rw (no_digit, sym c.letter.ensures ∙ w.if-letter.true)
      | else-letter w ↦ w.value-is ∙ elim c.if-hyphen.branch [
        | then-hyphen v ↦ v.value-is ∙ rw (no_digit, sym c.letter.ensures ∙ w.if-letter.false, sym c.hyphen.ensures ∙ v.if-hyphen.true)
        | else-hyphen v ↦ v.value-is ∙ rw (no_digit, sym c.letter.ensures ∙ w.if-letter.false, sym c.hyphen.ensures ∙ v.if-hyphen.false)
      ]
    ]
