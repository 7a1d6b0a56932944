use Rattle.std.specs.Prelude.{◌-◌, ◌≡◌}
use Rattle.laws.specs.Kit.{length}
use Rattle.desk_text.specs.Words.{past_pieces}
use Rattle.cases_site.specs.Site.{rows_from, table_run}
use Rattle.commission.proofs.table.cases.Given as goal

abbrev pub invariant-loop-k : goal.invariant-loop-k
invariant-loop-k g l = (length l.book ≡ length l.initial.book) × (rows_from (length l.table - l.k) l.right l.book (past_pieces 59 l.k l.table) ≡ table_run l.initial.book l.table)
