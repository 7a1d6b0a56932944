-- The library's search is the definition's.
use Rattle.std.proofs.Common.{rules}
use Rattle.std.proofs.lemmas.Iterator.{YieldsList-from_slice}
use Rattle.laws.specs.Chains.{every_all}
use Rattle.site_leaves.proofs.line.all.Goals as goal

pub returns : goal.returns
returns c = every_all (λ right. right) (YieldsList-from_slice _ c.iter.ensures.rest) (λ x b q k. search rules) c.all.ensures.ran
