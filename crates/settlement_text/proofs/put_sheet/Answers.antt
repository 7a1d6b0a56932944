-- Behind the parties' lines that of all of them.
use Rattle.settlement_text.proofs.Laws.{filled_all}
use Rattle.settlement_text.proofs.put_sheet.Goals as goal

pub returns : goal.returns
returns c =
    filled_all _ _ _ c.put_all_parties-sheet.ensures c.put_sums.ensures
