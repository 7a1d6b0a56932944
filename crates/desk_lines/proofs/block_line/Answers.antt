-- The answer, and nothing behind a refusal, else the series and its quantities.
use Rattle.paper.specs.Listing.{text}
use Rattle.desk_lines.specs.Lines.{block_line}
use Rattle.desk_text.specs.Put.Laws.{then}
use Rattle.desk_lines.proofs.Laws.{refused, accepted}
use Rattle.desk_lines.proofs.block_line.Goals as goal

pub returns-then-number-ne0 : goal.returns-then-number-ne0
unfolding block_line
returns-then-number-ne0 c = refused _ c.if-number-ne0.true c.put_telling-a.ensures

pub returns : goal.returns
unfolding block_line text
returns c =
    let q = rw (c.quantities.ensures, c.n_of.ensures) at c.put_quantities-c.ensures in
    accepted _ c.if-number-ne0.false c.put_telling-a.ensures (then (then c.put_series-b.ensures q) c.put_end.ensures)
