-- The first block that is the sender's has the place that is sought.
use Rattle.laws.specs.Kit.{sym, ap, ◌∙◌, arith}
use Rattle.laws.specs.Chains.{placed, place_found, blocks_road}
use Rattle.paper.specs.Book.{is_sender_block_of, slot_of}
use Rattle.std.proofs.Common.{rules}
use Rattle.slots.proofs.slot_of.Goals as goal

pub returns-in-Some : goal.returns-in-Some
unfolding slot_of
returns-in-Some c =
    sym (ap placed c.in-Some.is) ∙ place_found (is_sender_block_of _) (blocks_road 512 _ (omega arith) c.chunks_exact.ensures.rest c.chunks_exact.ensures.size) (λ x b q k. search rules) c.position.ensures.ran

pub returns-in-None : goal.returns-in-None
unfolding slot_of
returns-in-None c =
    sym (ap placed c.in-None.is) ∙ place_found (is_sender_block_of _) (blocks_road 512 _ (omega arith) c.chunks_exact.ensures.rest c.chunks_exact.ensures.size) (λ x b q k. search rules) c.position.ensures.ran
