-- A byte past the end changes nothing, in the definition and in the code.
use Rattle.laws.specs.Kit.{arith, sym, set_out}
use Rattle.listing_text.proofs.put_byte.Goals as goal

pub returns-else-at-out : goal.returns-else-at-out
returns-else-at-out c = sym (set_out _ _ _ (omega arith))
