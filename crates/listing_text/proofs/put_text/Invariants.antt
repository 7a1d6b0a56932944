use Rattle.std.specs.Prelude.{◌≡◌, ◌≤◌, ◌+◌}
use Rattle.laws.specs.Kit.{length, drop}
use Rattle.laws.specs.Bytes.{written}
use Rattle.listing_text.proofs.put_text.Given as goal

abbrev pub invariant-loop-i : goal.invariant-loop-i
invariant-loop-i l = (l.i ≤ length l.s) × (length l.out ≡ length l.initial.out) × (written (l.at + l.i) (drop l.i l.s) l.out ≡ written l.at l.s l.initial.out)
