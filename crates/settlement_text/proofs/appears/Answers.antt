-- A party appears where one of the blocks names it.
use Rattle.std.proofs.Common.{rules}
use Rattle.std.proofs.lemmas.Iterator.{YieldsList-from_take}
use Rattle.std.proofs.lemmas.Iterator.Consumers.{YieldsList-at}
use Rattle.laws.specs.Kit.{arith, ◌∙◌}
use Rattle.laws.specs.Chains.{has_any, blocks_road}
use Rattle.settlement_text.proofs.Laws.{naming, appears_named}
use Rattle.settlement_text.proofs.appears.Goals as goal

pub returns : goal.returns
returns c =
    let blocks = YieldsList-at c.take.ensures.source (blocks_road 512 _ (omega arith) c.chunks_exact.ensures.rest c.chunks_exact.ensures.size) in
    has_any (naming c.args.party.now) (YieldsList-from_take _ blocks c.take.ensures.count) (λ x b q k. search rules) c.any.ensures.ran
    ∙ appears_named _ _
