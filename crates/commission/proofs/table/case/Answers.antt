-- Each cell is read, and the call made, as the definition does.
use Rattle.laws.specs.Kit.{sym, ap, ◌∙◌, ◌and◌, is}
use Rattle.laws.specs.Base.{ap₂}
use Rattle.cases_site.specs.Site.{row_right, row_book}
use Rattle.commission.proofs.table.case.Goals as goal

pub returns : goal.returns
unfolding row_right row_book
returns g c =
    rw (sym c.piece_numbered-word.ensures, sym c.named-command.ensures, sym c.piece_numbered.ensures, sym c.piece_numbered-2.ensures, sym c.piece_numbered-3.ensures, sym c.number_read-expected.ensures, sym c.unwrap_or.ensures, sym c.is_some.ensures)
    (c.both.ensures ∙ ap₂ ◌and◌ (c.number-right.ensures ∙ ap (is _) c.came-came.ensures.0) c.stated.ensures, c.came-came.ensures.1)
