use Rattle.laws.specs.Cut.{cut}
use Rattle.accept.proofs.Laws.Looking.{LookedTo}
use Rattle.accept.proofs.looking.look_all.Given as goal

abbrev pub invariant-loop-i : goal.invariant-loop-i
invariant-loop-i l = LookedTo l.slot.0 (cut 512 l.us) (cut 512 l.series) l.i l.partners l.homes l.numbers
