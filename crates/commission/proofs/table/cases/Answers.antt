-- The rows still to come, with what is joined so far, give what all rows give; no case changes the book's length.
use Rattle.laws.specs.Kit.{ap, sym, ◌∙◌, refl, is, is_yes, is_no}
use Rattle.desk_text.specs.Words.{past_pieces}
use Rattle.cases_site.specs.Site.{table_run}
use Rattle.commission.proofs.Laws.{rows_all, rows_turn, rows_end, rows_none}
use Rattle.std.proofs.Common.{rules}
use Rattle.commission.proofs.table.cases.Goals as goal

pub loop-k-init : goal.loop-k-init
unfolding table_run past_pieces
loop-k-init g c = (refl, rows_all _ _ _ _)

pub returns-then-is_empty : goal.returns-then-is_empty
unfolding is
returns-then-is_empty g c =
    let e = rows_end _ _ _ _ _ c.loop-k-test.true (is_yes _ 0 (rw c.piece_numbered-row.ensures at (sym c.is_empty.ensures ∙ c.if-is_empty.true))) c.loop-k.invariant.1 in
    (ap (λ p. p.0) e, ap (λ p. p.1) e)

pub loop-k-preserved : goal.loop-k-preserved
unfolding is
loop-k-preserved g c = (
  search rules,
  rw (c.both-right.ensures, c.case.ensures.0, c.case.ensures.1, c.piece_numbered-row.ensures)
      (rows_turn _ _ _ _ _ c.loop-k-test.true (is_no _ 0 (rw c.piece_numbered-row.ensures at (sym c.is_empty.ensures ∙ c.if-is_empty.false))) c.loop-k.invariant.1),
)

pub returns : goal.returns
returns g c =
    let e = rows_none _ _ _ _ _ c.loop-k-test.false c.loop-k.invariant.1 in
    (ap (λ p. p.0) e, ap (λ p. p.1) e)
