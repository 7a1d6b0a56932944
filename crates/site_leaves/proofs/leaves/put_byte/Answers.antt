-- A byte past the end is put nowhere, in the definition too.
use Rattle.laws.specs.Kit.{sym, refl}
use Rattle.laws.specs.Base.{set_out}
use Rattle.laws.specs.Bytes.{written}
use Rattle.site_leaves.proofs.leaves.put_byte.Goals as goal

pub returns-then-at-block : goal.returns-then-at-block
unfolding written
returns-then-at-block c = refl

pub returns-else-at-block : goal.returns-else-at-block
unfolding written
returns-else-at-block c = sym (set_out _ _ _ c.if-at-block.false)
