-- One test over the whole table shows that it holds each number's code.
use Rattle.laws.specs.Kit.{refl, ◌and◌, is}
use Rattle.laws.specs.Table.{tabulates}
use Rattle.laws.specs.Table.Laws.{table_tested}
use Rattle.paper.specs.Codes.{table, code_in, reason_code}
use Rattle.codes.proofs.reason_code.Goals as goal

pub code_in-requires : goal.code_in-requires
unfolding tabulates reason_code code_in table is ◌and◌
code_in-requires c = table_tested _ _ _ refl refl
