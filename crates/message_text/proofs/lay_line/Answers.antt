-- The code asks the definition's questions in its order.
use Rattle.laws.specs.Kit.{sym, ◌∙◌, refl}
use Rattle.paper.specs.Listing.{text}
use Rattle.message_text.specs.MessageText.{with_line}
use Rattle.std.proofs.Common.{rules}
use Rattle.message_text.proofs.lay_line.Goals as goal

pub returns-then-skipped : goal.returns-then-skipped
unfolding with_line
returns-then-skipped c = let e = sym c.skipped.ensures ∙ c.if-skipped.true in rw e ((refl, search rules), refl)

pub returns-then-same : goal.returns-then-same
unfolding with_line text
returns-then-same c =
    rw (sym c.skipped.ensures ∙ c.if-skipped.false, sym c.word-w.ensures, sym c.value-v.ensures, sym c.same.ensures ∙ c.if-same.true) c.begin_series.ensures

pub returns : goal.returns
unfolding with_line text
returns c =
    rw (sym c.skipped.ensures ∙ c.if-skipped.false, sym c.word-w.ensures, sym c.value-v.ensures, sym c.same.ensures ∙ c.if-same.false) c.lay_field.ensures
