-- A row written over one of its own length is that row, and its nets are written into it.
use Rattle.accept.proofs.Laws.Renewing.{kept_written}
use Rattle.accept.proofs.renewal.kept_sender.Goals as goal

pub returns : goal.returns
returns c =
    kept_written _ _ _ _ c.requires.0 c.write_bytes.ensures c.sender.ensures c.write_nets.ensures
