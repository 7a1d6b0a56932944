-- Each block is asked.
use Rattle.std.proofs.Common.{rules}
use Rattle.laws.specs.Kit.{arith}
use Rattle.laws.specs.Chains.{every_all, blocks_road}
use Rattle.paper.specs.PlainRun.{mark_true}
use Rattle.plain_run.proofs.marks_true.Goals as goal

pub returns : goal.returns
returns c =
    every_all (mark_true _ _) (blocks_road 512 _ (omega arith) c.chunks_exact.ensures.rest c.chunks_exact.ensures.size) (λ x b q k. search rules) c.all.ensures.ran
