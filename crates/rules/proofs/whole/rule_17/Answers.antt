-- The sender's block is new where none is stored, and the new series are counted.
use Rattle.std.specs.Prelude.{◌+◌}
use Rattle.laws.specs.Kit.{◌∙◌, ap, ap₂, cond, less}
use Rattle.rules.specs.ByPlaces.{rule17_by, new_blocks_by}
use Rattle.rules.proofs.Laws.{one_unless}
use Rattle.rules.proofs.whole.rule_17.Goals as goal

pub returns : goal.returns
unfolding rule17_by new_blocks_by less
returns c =
    ap₂ (λ m n. less c.args.free (m + n)) (c.from.ensures ∙ one_unless c.is_sender.result ∙ ap (λ t. cond t 0 1) c.is_sender.ensures) c.new_series.ensures.0
