-- The first block that passes the test has the place.
use Rattle.std.proofs.Common.{rules}
use Rattle.laws.specs.Kit.{arith, sym, ap, ◌∙◌}
use Rattle.laws.specs.Chains.{place_found, blocks_road, placed}
use Rattle.readings.proofs.finals.held.Goals as goal

pub returns-in-Some : goal.returns-in-Some
returns-in-Some c =
    rw (← c.slot_of-slot.ensures)
    (sym (ap placed c.in-Some.is) ∙ place_found _ (blocks_road 512 _ (omega arith) c.chunks_exact.ensures.rest c.chunks_exact.ensures.size) (λ x b q k. search rules) c.position.ensures.ran)

pub returns-in-None : goal.returns-in-None
returns-in-None c =
    rw (← c.slot_of-slot.ensures)
    (sym (ap placed c.in-None.is) ∙ place_found _ (blocks_road 512 _ (omega arith) c.chunks_exact.ensures.rest c.chunks_exact.ensures.size) (λ x b q k. search rules) c.position.ensures.ran)
