-- The block with the number is taken of the series.
use Rattle.laws.specs.Kit.{ap, ◌∙◌}
use Rattle.paper.specs.Book.{numbered}
use Rattle.reader.specs.Walk.{series_at}
use Rattle.reader.proofs.series_at.Goals as goal

pub returns : goal.returns
unfolding series_at
returns c = c.numbered.ensures ∙ ap (λ l. numbered l c.args.number) c.series_of.ensures
