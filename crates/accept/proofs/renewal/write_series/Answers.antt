-- A row written over one of its own length is that row.
use Rattle.laws.specs.Kit.{sym, ◌∙◌, ap}
use Rattle.laws.specs.Bytes.Laws.{written_all}
use Rattle.paper.specs.Layout.{with_senders_slot}
use Rattle.accept.proofs.renewal.write_series.Goals as goal

pub returns : goal.returns
returns c =
    c.write_senders_slot.ensures ∙ ap (with_senders_slot c.args.slot.0) (c.write_bytes.ensures ∙ written_all _ _ (sym c.requires))
