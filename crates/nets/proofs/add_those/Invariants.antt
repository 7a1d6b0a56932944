use Rattle.std.specs.Prelude.{◌≡◌, Bool}
use Rattle.std.specs.Fn.{FnReturnsAt}
use Rattle.laws.specs.Kit.{length, take}
use Rattle.laws.specs.Cut.{cut}
use Rattle.paper.specs.Layout.{Block}
use Rattle.nets.specs.Sums.{Raised, share_if, shares}
use Rattle.nets.proofs.add_those.Given as goal

abbrev pub invariant-loop-x : goal.invariant-loop-x
invariant-loop-x g l =
    (length l.sums ≡ 100)
    × ((p : Block → Bool) → ((x : Block) (r : Bool) → FnReturnsAt g.F.Fn l.counts x r → r ≡ p x) → Raised 100 (shares (share_if p l.ours l.e) (take (length l.yielded) (cut 512 l.blocks))) l.initial.sums l.sums)
