-- The blocks tested and the blocks that are left still give the test of all, and the last one to three are taken singly.
use Rattle.std.specs.Prelude.{◌≡◌, ◌+◌, ◌-◌, ◌*◌, ◌%◌, ◌≤◌}
use Rattle.std.proofs.lemmas.List.{length_push}
use Rattle.laws.specs.Kit.{arith, refl, sym, ap, ◌∙◌, length, take, drop, ◌and◌, List, ℕ, Bool}
use Rattle.laws.specs.Bytes.{part}
use Rattle.laws.specs.Lists.{every}
use Rattle.laws.specs.Cut.{cut, block}
use Rattle.laws.specs.Cut.Laws.{block_length, cut_length, width_inside}
use Rattle.laws.specs.Chains.{blocks_for, turn, turn_all, turn_block}
use Rattle.paper.specs.Check.{check_right}
use Rattle.block.proofs.Laws.Blocks.{turn_4}
use Rattle.block.proofs.check.checks_right.Goals as goal

-- the four tests of a row
abbrev four : List ℕ → Bool
four r = check_right (part 0 512 r) and (check_right (part 512 512 r) and (check_right (part 1024 512 r) and check_right (part 1536 512 r)))

pub four_right-right-requires : goal.four_right-right-requires
four_right-right-requires c =
    let s = c.args.s.now in
    let road = blocks_for 2048 s (omega arith) c.into_iter-four-iterator.ensures.into_iter_gives c.chunks_exact-four-items.ensures.rest c.chunks_exact-four-items.ensures.size in
    let at = turn_block 2048 s (turn road c.loop-four.yielded _ c.loop-four.yielded_by c.in-Some.is c.next.ensures.steps) in
    ap length at.1 ∙ block_length 2048 s _ at.0

pub loop-four-init : goal.loop-four-init
unfolding ◌and◌
loop-four-init c = refl

pub loop-four-preserved : goal.loop-four-preserved
unfolding ◌and◌ block
loop-four-preserved c =
    let s = c.args.s.now in
    let k = length c.loop-four.yielded in
    let road = blocks_for 2048 s (omega arith) c.into_iter-four-iterator.ensures.into_iter_gives c.chunks_exact-four-items.ensures.rest c.chunks_exact-four-items.ensures.size in
    let at = turn_block 2048 s (turn road c.loop-four.yielded _ c.loop-four.yielded_by c.in-Some.is c.next.ensures.steps) in
    let width : 2048 ≡ 2048 * k + 2048 - 2048 * k = omega arith in
    let e : 2048 * (k + 1) ≡ 2048 * k + 2048 = omega arith in
    rw (length_push c.loop-four.yielded c.in-Some.four, e)
    (turn_4 check_right (2048 * k) s c.loop-four.right (width_inside 2048 (length s) k at.0) (c.four_right-right.ensures ∙ ap four (at.1 ∙ ap (λ n. take n (drop (2048 * k) s)) width)) c.loop-four.invariant)

pub returns : goal.returns
unfolding ◌and◌
returns c =
    let s = c.args.s.now in
    let road = blocks_for 2048 s (omega arith) c.into_iter-four-iterator.ensures.into_iter_gives c.chunks_exact-four-items.ensures.rest c.chunks_exact-four-items.ensures.size in
    let k = turn_all road c.loop-four.yielded _ c.loop-four.yielded_by c.in-None.is c.next.ensures.steps ∙ cut_length 2048 s in
    let e : length s - length s % 2048 ≡ 2048 * length c.loop-four.yielded = omega (arith, k) in
    ap (λ x. c.loop-four.right and x) (c.checks_right_singly.ensures ∙ ap (λ r. every check_right (cut 512 r)) (c.remainder.ensures ∙ c.chunks_exact.ensures.remainder ∙ ap (λ n. drop n s) e)) ∙ c.loop-four.invariant
