use Rattle.std.specs.Prelude.{◌≡◌, ℕ, ◌+◌, ◌%◌, ◌<◌, ◌^◌}
use Rattle.laws.specs.Kit.{length, drop}
use Rattle.paper.specs.Layout.{quantity}
use Rattle.nets.specs.Sums.{Raised}
use Rattle.nets.proofs.change_sums.Given as goal

abbrev pub invariant-loop-k : goal.invariant-loop-k
invariant-loop-k g l =
    (length l.sums ≡ 100) × (drop l.k l.sums ≡ drop l.k l.initial.sums)
    × ((f : ℕ → ℕ) → ((a q r : ℕ) → a < 2 ^ 32 → q < 2 ^ 32 → r < 2 ^ 32 → goal.F-post g l.change a q r → r ≡ (a + f q) % 2 ^ 32) → Raised l.k (λ j. f (quantity l.x j)) l.initial.sums l.sums)
