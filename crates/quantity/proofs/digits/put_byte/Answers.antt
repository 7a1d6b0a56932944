-- A store past the end changes nothing, in the definition and in the code; the length is asked in two steps, so that no sum is too large.
use Rattle.laws.specs.Kit.{arith, sym, set_out}
use Rattle.quantity.proofs.digits.put_byte.Goals as goal

pub returns-then-buffer-at : goal.returns-then-buffer-at
returns-then-buffer-at c = sym (set_out _ _ _ (omega arith))

pub returns-then-buffer-at-2 : goal.returns-then-buffer-at-2
returns-then-buffer-at-2 c = sym (set_out _ _ _ (omega arith))
