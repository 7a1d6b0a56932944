-- The used slots are the blocks that are asked.
use Rattle.laws.specs.Kit.{arith}
use Rattle.laws.specs.Chains.{has_any, blocks_road}
use Rattle.paper.specs.Sound.{same_right}
use Rattle.std.proofs.Common.{rules}
use Rattle.entering.proofs.is_stored.Goals as goal

pub returns : goal.returns
returns c =
    has_any (same_right _) (blocks_road 512 _ (omega arith) c.chunks_exact.ensures.rest c.chunks_exact.ensures.size) (λ x b q k. search rules) c.any.ensures.ran
