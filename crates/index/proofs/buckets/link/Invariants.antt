use Rattle.std.specs.Prelude.{◌≡◌, length}
use Rattle.std.specs.Fn.{FnReturnsAt}
use Rattle.index.specs.Ahead.{Behind}
use Rattle.index.specs.Linked.{LinkedAs}
use Rattle.index.proofs.buckets.link.Given as goal

abbrev pub invariant-loop-i : goal.invariant-loop-i
invariant-loop-i g l =
    Behind l.i l.heads l.nexts × (length l.heads ≡ 1024) × (length l.nexts ≡ 1000) × LinkedAs (FnReturnsAt g.F.Fn l.bucket_of) l.us l.i l.heads l.nexts
