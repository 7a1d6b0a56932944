-- The first block that passes the test has the place.
use Rattle.std.proofs.Common.{rules}
use Rattle.laws.specs.Kit.{arith, sym, ap, ◌∙◌}
use Rattle.laws.specs.Chains.{place_found, blocks_road, placed}
use Rattle.paper.specs.Readings.{is_stored_as}
use Rattle.readings.proofs.stored_as.Goals as goal

pub returns-in-Some : goal.returns-in-Some
unfolding is_stored_as
returns-in-Some c =
    sym (ap placed c.in-Some.is) ∙ place_found (is_stored_as _ _ _) (blocks_road 512 _ (omega arith) c.chunks_exact.ensures.rest c.chunks_exact.ensures.size) (λ x b q k. rw (← c.slot_of-slot.ensures) (search rules)) c.position.ensures.ran

pub returns-in-None : goal.returns-in-None
unfolding is_stored_as
returns-in-None c =
    sym (ap placed c.in-None.is) ∙ place_found (is_stored_as _ _ _) (blocks_road 512 _ (omega arith) c.chunks_exact.ensures.rest c.chunks_exact.ensures.size) (λ x b q k. rw (← c.slot_of-slot.ensures) (search rules)) c.position.ensures.ran
