-- The place found so far and the bytes ahead give what all bytes give.
use Rattle.laws.specs.Kit.{refl}
use Rattle.desk_text.specs.Arguments.{folder_length}
use Rattle.desk_text.proofs.Laws.{last_hit, last_miss, last_end}
use Rattle.std.proofs.Common.{rules}
use Rattle.desk_text.proofs.arguments.folder_length.Goals.{then-byte-eq47, else-byte-eq47}
use Rattle.desk_text.proofs.arguments.folder_length.Goals as goal

pub loop-k-init : goal.loop-k-init
unfolding folder_length
loop-k-init c = (search rules, refl)

pub loop-k-preserved : goal.loop-k-preserved
loop-k-preserved c = elim c.if-byte-eq47.branch [
  | then-byte-eq47 w ↦ rw w.at-is (search rules, last_hit _ _ _ _ c.loop-k-test.true w.if-byte-eq47.true c.loop-k.invariant.1)
  | else-byte-eq47 w ↦ rw w.at-is (search rules, last_miss _ _ _ _ c.loop-k-test.true w.if-byte-eq47.false c.loop-k.invariant.1)
]

pub returns : goal.returns
returns c = let v = c.loop-k.invariant in (last_end _ _ _ _ c.loop-k-test.false v.1, search rules)
