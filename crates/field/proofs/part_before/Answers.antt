-- What stands before the first x is the front of the bytes, as long as was counted.
use Rattle.laws.specs.Kit.{◌∙◌}
use Rattle.laws.specs.Lists.Keep.{until_take}
use Rattle.laws.specs.Bytes.{part}
use Rattle.field.proofs.part_before.Goals as goal

pub returns : goal.returns
unfolding part
returns c = c.part_of.ensures ∙ until_take _ _ _ c.length_before.ensures.0
