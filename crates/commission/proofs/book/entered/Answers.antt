-- What is laid at the front of the room is the right that the text says.
use Rattle.laws.specs.Kit.{sym, ◌∙◌}
use Rattle.laws.specs.Base.{ap₂, List, ℕ}
use Rattle.laws.specs.Bytes.{part}
use Rattle.message_text.specs.declared.TextRead.{TextRead}
use Rattle.cases_site.specs.Site.{laid_first, right_of}
use Rattle.commission.proofs.book.entered.Goals as goal

pub returns : goal.returns
unfolding right_of laid_first
returns c =
    let m = c.right_from_text-k.ensures in
    rw (sym (c.part_of.ensures ∙ ap₂ (λ (q : TextRead) (x : List ℕ). part 0 q.length x) m.0 m.1)) c.enter_right.ensures
