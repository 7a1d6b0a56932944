-- The first test that fails refuses the message; past the length and the checks, head and series decide.
use Rattle.message.proofs.Laws.{check_wrong, length_wrong, right_by_lem}
use Rattle.std.proofs.Common.{◌∙◌}
use Rattle.std.proofs.Common.{sym}
use Rattle.message.proofs.message_right.Goals as goal

pub returns-then-not-whole_blocks : goal.returns-then-not-whole_blocks
returns-then-not-whole_blocks c = length_wrong _ (sym c.whole_blocks.ensures ∙ c.if-not-whole_blocks.true)

pub returns-then-not-checks_right : goal.returns-then-not-checks_right
returns-then-not-checks_right c = check_wrong _ (sym c.whole_blocks.ensures ∙ c.if-not-whole_blocks.false) (sym c.checks_right.ensures ∙ c.if-not-checks_right.true)

pub returns : goal.returns
returns c =
    right_by_lem _ _ _
    (sym c.whole_blocks.ensures ∙ c.if-not-whole_blocks.false) (sym c.checks_right.ensures ∙ c.if-not-checks_right.false)
    c.head_of-h.ensures c.series_of-series.ensures c.head_right.ensures c.all_series_right.ensures
