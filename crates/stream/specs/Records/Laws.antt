-- Which numbers no tag has: 0, and those behind the last row.
use Rattle.std.specs.Prelude.{◌≡◌, ◌⊎◌, Bool, true, false, ℕ, zero, suc, ◌≤◌, drop}
use Rattle.std.proofs.Common.{refl, inl, inr, arith}
use Rattle.laws.specs.Tests.{◌and◌, less, upto}
use Rattle.laws.specs.Tests.Laws.{split, clash, less_yes, less_no}
use Rattle.laws.specs.Lists.{every}
use Rattle.laws.specs.Lists.Each.{every_all, all_get_or_inside}
use Rattle.stream.specs.Records.{Sizes, unknown, rows, sizes_of, known}

-- some length is lawful
wide : Sizes → Bool
wide s = upto s.0 s.1

pub unknown_tag : (n : ℕ) → known n ≡ false → (n ≡ 0) ⊎ (28 ≤ n)
unfolding known sizes_of rows wide every ◌and◌ upto
unknown_tag zero h = inl refl
unknown_tag (suc k) h =
    split (less k 27)
    (λ e. clash (all_get_or_inside (λ s. wide s ≡ true) (drop 1 rows) k unknown (less_yes k 27 e) (every_all wide (drop 1 rows) refl)) h)
    (λ e. inr (let l : 27 ≤ k = less_no k 27 e in omega arith))
