-- Each sixteen passed were the same, so that what is left decides; the first sixteen that differ decide at once.
use Rattle.std.specs.Prelude.{◌≡◌, ◌+◌, ◌*◌}
use Rattle.laws.specs.Kit.{sym, ◌∙◌, arith, length-take, length-drop, ◌and◌, and_no_left}
use Rattle.laws.specs.Lists.Same.{same_length_other}
use Rattle.laws.specs.Slices.{same_slice, rest_slice}
use Rattle.field.proofs.same.Goals as goal

pub returns-then-a-b : goal.returns-then-a-b
returns-then-a-b c = sym (same_length_other _ _ c.if-a-b.true)

pub returns-then-not-same_bytes : goal.returns-then-not-same_bytes
returns-then-not-same_bytes c =
    sym (c.loop-k.invariant ∙ same_slice (16 * c.loop-k.k) 16 _ _ c.same_bytes.ensures ∙ and_no_left _ _ c.if-not-same_bytes.true)

pub loop-k-preserved : goal.loop-k-preserved
unfolding ◌and◌
loop-k-preserved c =
    let next : 16 * (c.loop-k.k + 1) ≡ 16 * c.loop-k.k + 16 = omega arith in
    rw next (c.loop-k.invariant ∙ same_slice (16 * c.loop-k.k) 16 _ _ c.same_bytes.ensures ∙ rw c.if-not-same_bytes.false)
