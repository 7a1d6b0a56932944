-- A byte past the end is not set, and a list set past its end is the list.
use Rattle.laws.specs.Kit.{sym, set_out}
use Rattle.block.proofs.numbers.put_byte.Goals as goal

pub returns-else-at-s : goal.returns-else-at-s
returns-else-at-s c = sym (set_out c.args.s.now c.args.at c.args.x c.if-at-s.false)
