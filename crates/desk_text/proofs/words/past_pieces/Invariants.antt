use Rattle.std.specs.Prelude.{◌≡◌}
use Rattle.desk_text.specs.Words.{past_pieces}
use Rattle.desk_text.proofs.words.past_pieces.Given as goal

abbrev pub invariant-loop-left : goal.invariant-loop-left
invariant-loop-left l = past_pieces l.end l.left l.rest ≡ past_pieces l.end l.k l.s

abbrev pub decreases-loop-left : goal.decreases-loop-left
decreases-loop-left l = l.left
