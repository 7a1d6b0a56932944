-- The final that is read is worked out from what is kept, which is what was last sent.
use Rattle.export.proofs.Laws.Demand3.{final_by_messages}
use Rattle.export.proofs.book.tetherbay_final.Goals as goal

pub returns : goal.returns
returns c = record { value = c.final_value.ensures; final_by_messages = final_by_messages _ _ _ _ c.final_value.ensures }
