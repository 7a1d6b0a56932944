use Rattle.std.specs.Prelude.{◌≡◌, Bool, ℕ, ◌<◌}
use Rattle.laws.specs.Tests.{below}
use Rattle.sound_blocks.proofs.entries.all_pass.Given as goal

abbrev pub invariant-loop-k : goal.invariant-loop-k
invariant-loop-k g l = (p : ℕ → Bool) → ((k : ℕ) (r : Bool) → k < l.n → goal.F-post g l.passes k r → r ≡ p k) → l.ok ≡ below p l.k
