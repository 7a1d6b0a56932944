use Rattle.std.specs.Prelude.{◌≡◌, Bool, List, ℕ}
use Rattle.std.specs.Fn.{FnReturnsAt}
use Rattle.laws.specs.Kit.{length}
use Rattle.laws.specs.Lists.{place}
use Rattle.laws.specs.Cut.{cut}
use Rattle.paper.specs.Layout.{Block}
use Rattle.index.specs.Linked.Laws.{FoundUpto}
use Rattle.index.proofs.find_each.Given as goal

abbrev pub invariant-loop-k : goal.invariant-loop-k
invariant-loop-k g l =
    (length l.found ≡ 1000)
    × ((sought : Block → Block → Bool) (us : List Block) → ((y : Block) (n : ℕ) → FnReturnsAt g.F.Fn l.find y n → n ≡ place (sought y) us) → FoundUpto sought us (cut 512 l.of) l.k l.found)
