-- Every block is judged.
use Rattle.laws.specs.Kit.{arith}
use Rattle.std.proofs.Common.{rules}
use Rattle.laws.specs.Chains.{every_all, blocks_road}
use Rattle.sound_blocks.specs.Layouts.{allowed_in}
use Rattle.laws.specs.Cut.{cut}
use Rattle.sound.specs.Used.{used_fields}
use Rattle.sound.proofs.all_fields.Goals as goal

pub returns : goal.returns
returns c =
    every_all (used_fields (allowed_in c.args.old) c.args.d.now (cut 512 c.args.us.now)) (blocks_road 512 _ (omega arith) c.chunks_exact.ensures.rest c.chunks_exact.ensures.size) (λ x b q k. search rules) c.all.ensures.ran
