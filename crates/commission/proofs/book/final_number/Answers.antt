-- The position is read as the definition reads it; the parties are the definition's.
use Rattle.std.specs.Prelude.{Option, ℕ}
use Rattle.std.specs.Option.{unwrap_or}
use Rattle.laws.specs.Kit.{sym, ap, ◌∙◌}
use Rattle.paper.specs.declared.FinalAnswer.{FinalAnswer}
use Rattle.paper.specs.Listing.{text}
use Rattle.cases.specs.Examples.{seller, buyer}
use Rattle.commission.proofs.book.final_number.Goals as goal

pub returns : goal.returns
unfolding seller buyer text
returns c =
    rw (sym (c.unwrap_or.ensures ∙ ap (λ (q : Option ℕ). unwrap_or q 0) c.number_read.ensures)) (ap (λ (a : FinalAnswer). a.number) c.final_value.ensures)
