-- The lead is read as the definition reads it; day, area and receiver are the definition's.
use Rattle.std.specs.Prelude.{Option, ℕ}
use Rattle.std.specs.Option.{unwrap_or}
use Rattle.laws.specs.Kit.{sym, ap, ◌∙◌}
use Rattle.paper.specs.declared.OpenAnswer.{OpenAnswer}
use Rattle.paper.specs.Listing.{text}
use Rattle.paper.specs.Opening.{open_answer}
use Rattle.desk_text.specs.Arguments.{word_value}
use Rattle.cases.specs.Examples.{area, receiver, day}
use Rattle.cases_site.specs.Site.{opening}
use Rattle.commission.proofs.book.opened.Goals as goal

pub returns : goal.returns
unfolding opening area receiver day text open_answer
returns c =
    rw (sym (c.word_value.ensures ∙ ap word_value (c.unwrap_or.ensures ∙ ap (λ (q : Option ℕ). unwrap_or q 0) c.number_read.ensures))) (ap (λ (a : OpenAnswer). a.number) c.«open».ensures.0, c.«open».ensures.1)
