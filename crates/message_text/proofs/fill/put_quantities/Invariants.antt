use Rattle.std.specs.Prelude.{◌≡◌, ◌-◌}
use Rattle.laws.specs.Kit.{length}
use Rattle.message_text.specs.MessageText.{spread}
use Rattle.message_text.proofs.fill.put_quantities.Given as goal

abbrev pub invariant-loop-k : goal.invariant-loop-k
invariant-loop-k l = (length l.block ≡ length l.initial.block) × (spread (l.last - l.k) l.k l.kilowatts l.block ≡ spread (l.last - l.start) l.start l.kilowatts l.initial.block)
