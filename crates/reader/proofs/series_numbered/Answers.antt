-- The series that is next is the one by its number of what is read.
use Rattle.laws.specs.Kit.{◌∙◌, ap}
use Rattle.reader.specs.Walk.{readable, series_at}
use Rattle.reader.specs.Walk.Laws.{read_numbered}
use Rattle.reader.proofs.series_numbered.Goals as goal

pub returns : goal.returns
returns c =
    let message = c.args.message.now in
    c.current.ensures
    ∙ (ap (λ x. series_at x c.at.result.next) c.at.ensures.0 ∙ (ap (series_at (readable message)) c.at.ensures.1 ∙ read_numbered message c.args.number))
