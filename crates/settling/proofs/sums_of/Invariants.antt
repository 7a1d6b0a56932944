use Rattle.std.specs.Prelude.{◌≡◌, ◌≤◌, ◌*◌}
use Rattle.laws.specs.Cut.{cut}
use Rattle.paper.specs.Layout.{in_party, out_party}
use Rattle.settling.specs.Values.{side_sum}
use Rattle.settling.proofs.sums_of.Given as goal

abbrev pub invariant-loop-i : goal.invariant-loop-i
invariant-loop-i l = (l.bought ≡ side_sum in_party l.party (cut 512 l.us) l.values l.i) × (l.sold ≡ side_sum out_party l.party (cut 512 l.us) l.values l.i)
    × (l.bought ≤ l.i * 4294967295) × (l.sold ≤ l.i * 4294967295)
