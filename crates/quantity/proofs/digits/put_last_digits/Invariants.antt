use Rattle.std.specs.Prelude.{◌≡◌}
use Rattle.laws.specs.Kit.{length}
use Rattle.laws.specs.Bytes.{written}
use Rattle.paper.specs.QuantityText.{last_digits}
use Rattle.quantity.proofs.digits.put_last_digits.Given as goal

abbrev pub invariant-loop-i : goal.invariant-loop-i
invariant-loop-i l = (length l.buffer ≡ length l.initial.buffer) × (written l.at (last_digits l.i l.rest) l.buffer ≡ written l.at (last_digits l.k l.x) l.initial.buffer)
