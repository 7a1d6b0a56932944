-- Each slot is asked with its number.
use Rattle.std.proofs.Common.{rules}
use Rattle.std.proofs.lemmas.Iterator.{YieldsList-from_slice, YieldsList-from_zip}
use Rattle.std.proofs.lemmas.Iterator.Consumers.{YieldsList-at}
use Rattle.laws.specs.Kit.{arith, ◌∙◌, ◌and◌, is}
use Rattle.laws.specs.Cut.{cut}
use Rattle.laws.specs.Cut.Laws.{cut_length}
use Rattle.laws.specs.Chains.{has_any, blocks_road}
use Rattle.rules.specs.ByPlaces.{absent_by, rule16_by}
use Rattle.rules.proofs.Laws.{absent_beside}
use Rattle.rules.proofs.whole.rule_16.Goals as goal

pub returns : goal.returns
unfolding rule16_by absent_by ◌and◌ is
returns c =
    let road = blocks_road 512 _ (omega arith) c.chunks_exact.ensures.rest c.chunks_exact.ensures.size in
    let z = c.zip.ensures in
    let i = c.iter.ensures in
    has_any (λ p. absent_by c.args.slot.0 p.1 p.0) {u = c.any.new.self} (YieldsList-from_zip (YieldsList-at z.first road) (YieldsList-at z.second (YieldsList-from_slice _ i.rest))) (λ x b q k. search rules) c.any.ensures.ran
    ∙ absent_beside c.args.slot.0 (cut 512 c.args.us.now) c.args.numbers.now (omega (arith, cut_length 512 c.args.us.now, c.requires))
