use Rattle.std.specs.Prelude.{◌≡◌, ◌≤◌, ◌*◌, ◌/◌}
use Rattle.laws.specs.Kit.{length, take}
use Rattle.laws.specs.Lists.{once}
use Rattle.laws.specs.Cut.{cut}
use Rattle.paper.specs.Settled.{appearing}
use Rattle.settlement_text.specs.Settlement.{Filled}
use Rattle.settlement_text.proofs.put_all_parties.Given as goal

abbrev pub invariant-loop-i : goal.invariant-loop-i
invariant-loop-i l = (length l.line ≡ length l.initial.line) × Filled (cut 512 l.us) l.values (length l.us / 512) (once (appearing (take l.i (cut 512 l.us)))) l.at l.sheet l.initial.line l.line
    × (l.sheet.bought ≤ l.i * 8589934590000) × (l.sheet.sold ≤ l.i * 8589934590000)
