use Rattle.std.specs.Prelude.{◌≡◌, ◌≤◌, ◌+◌, ◌*◌}
use Rattle.laws.specs.Kit.{true, length}
use Rattle.message_words.specs.Words.{lines}
use Rattle.message_text.specs.MessageText.{laid, with_lines}
use Rattle.message_text.proofs.lay_lines.Given as goal

abbrev pub invariant-loop-line : goal.invariant-loop-line
invariant-loop-line l = (l.number + length l.rest ≤ length l.text) × (512 * (l.series + 1) ≤ length l.room) × (length l.room ≡ length l.initial.room) × (with_lines l.number (laid true l.series, l.room) (lines l.rest) ≡ with_lines 0 (laid true 0, l.initial.room) (lines l.text))

abbrev pub decreases-loop-line : goal.decreases-loop-line
decreases-loop-line l = length l.rest
