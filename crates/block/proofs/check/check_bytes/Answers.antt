-- The check so far and the bytes that are left still give the whole check, and the last one to three are taken singly.
use Rattle.std.specs.Prelude.{◌≡◌, ◌+◌, ◌-◌, ◌*◌, ◌%◌, ◌≤◌}
use Rattle.std.proofs.lemmas.List.{length_push}
use Rattle.laws.specs.Kit.{arith, sym, ap, ◌∙◌, length, drop}
use Rattle.laws.specs.Bytes.{part}
use Rattle.laws.specs.Bytes.Laws.{part_all}
use Rattle.laws.specs.Cut.{block}
use Rattle.laws.specs.Cut.Laws.{block_length, cut_length}
use Rattle.laws.specs.Chains.{blocks_for, turn, turn_all, turn_block}
use Rattle.paper.specs.Check.{check_from}
use Rattle.block.proofs.Laws.Turns.{turn as four_more}
use Rattle.block.proofs.check.check_bytes.Goals as goal

pub check_four_at-c-requires : goal.check_four_at-c-requires
check_four_at-c-requires c =
    let s = c.args.s.now in
    let road = blocks_for 4 s (omega arith) c.into_iter-four-iterator.ensures.into_iter_gives c.chunks_exact-four-items.ensures.rest c.chunks_exact-four-items.ensures.size in
    let at = turn_block 4 s (turn road c.loop-four.yielded _ c.loop-four.yielded_by c.in-Some.is c.next.ensures.steps) in
    omega (arith, ap length at.1 ∙ block_length 4 s _ at.0)

pub loop-four-preserved : goal.loop-four-preserved
unfolding part block
loop-four-preserved c =
    let s = c.args.s.now in
    let k = length c.loop-four.yielded in
    let road = blocks_for 4 s (omega arith) c.into_iter-four-iterator.ensures.into_iter_gives c.chunks_exact-four-items.ensures.rest c.chunks_exact-four-items.ensures.size in
    let at = turn_block 4 s (turn road c.loop-four.yielded _ c.loop-four.yielded_by c.in-Some.is c.next.ensures.steps) in
    let all : length c.in-Some.four.now ≡ 4 = ap length at.1 ∙ block_length 4 s k at.0 in
    let e : 4 * (k + 1) ≡ 4 * k + 4 = omega arith in
    let read = c.check_four_at-c.ensures ∙ ap (check_from c.loop-four.c) (part_all 4 c.in-Some.four.now (omega (arith, all)) ∙ at.1) in
    rw (length_push c.loop-four.yielded c.in-Some.four, e) (four_more c.loop-four.c (4 * k) 4 s read c.loop-four.invariant)

pub returns : goal.returns
returns c =
    let s = c.args.s.now in
    let road = blocks_for 4 s (omega arith) c.into_iter-four-iterator.ensures.into_iter_gives c.chunks_exact-four-items.ensures.rest c.chunks_exact-four-items.ensures.size in
    let k = turn_all road c.loop-four.yielded _ c.loop-four.yielded_by c.in-None.is c.next.ensures.steps ∙ cut_length 4 s in
    let e : length s - length s % 4 ≡ 4 * length c.loop-four.yielded = omega (arith, k) in
    c.check_from.ensures ∙ ap (check_from c.loop-four.c) (c.remainder.ensures ∙ c.chunks_exact.ensures.remainder ∙ ap (λ n. drop n s) e) ∙ c.loop-four.invariant
