-- The series are the blocks that are asked.
use Rattle.laws.specs.Kit.{arith}
use Rattle.laws.specs.Chains.{every_all, blocks_road}
use Rattle.paper.specs.Message.{series_right}
use Rattle.std.proofs.Common.{rules}
use Rattle.message.proofs.all_series_right.Goals as goal

pub returns : goal.returns
returns c =
    every_all (series_right _) (blocks_road 512 _ (omega arith) c.chunks_exact.ensures.rest c.chunks_exact.ensures.size) (λ x b q k. search rules) c.all.ensures.ran
