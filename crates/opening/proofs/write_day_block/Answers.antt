-- Each field is written over zeros at its place, which gives the day block once it is sealed.
use Rattle.opening.proofs.Laws.Written.{block_made}
use Rattle.opening.proofs.write_day_block.Goals as goal

pub returns : goal.returns
returns c =
    block_made _ c.requires.2 c.requires.1 c.write_day_fields.ensures c.seal.ensures
