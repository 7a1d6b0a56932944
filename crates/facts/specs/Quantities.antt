-- Quantities within their ranges, position by position: k is position k + 1.
use Rattle.std.specs.Prelude.{◌≡◌, ◌+◌, ◌-◌, ◌*◌, ◌≤◌, ◌<◌}
use Rattle.laws.specs.Base.{sym, ◌∙◌, true, ℕ, arith}
use Rattle.laws.specs.Tests.Laws.{and_left, and_right, upto_yes, below_at}
use Rattle.laws.specs.Bytes.{number}
use Rattle.laws.specs.Bytes.Laws.{number_part}
use Rattle.paper.specs.Layout.{Block, zeros, quantity, above_n}
use Rattle.paper.specs.Ranges.{quantity_allowed, quantities_allowed}
use Rattle.facts.specs.Layout.{value_zeros, zeros_part}

zero_above : (n k : ℕ) (x : Block) → zeros (above_n n x) ≡ true → n ≤ k → k < 100 → quantity x k ≡ 0
unfolding above_n quantity number
zero_above n k x z low high =
    let o : 108 + 4 * n + 4 * (k - n) ≡ 108 + 4 * k = omega arith in
    rw o at (sym (number_part 4 (108 + 4 * n) (400 - 4 * n) (4 * (k - n)) x (omega arith)) ∙ value_zeros _ (zeros_part (4 * (k - n)) 4 _ z))

module _ (n : ℕ) (x : Block) (ok : quantities_allowed n x ≡ true) where
  pub quantity_within : (k : ℕ) → k < n → quantity x k ≤ 9999999
  unfolding quantities_allowed quantity_allowed
  quantity_within k h = upto_yes _ _ (below_at _ n k (and_left _ _ ok) h)

  pub quantity_above : (k : ℕ) → n ≤ k → k < 100 → quantity x k ≡ 0
  unfolding quantities_allowed
  quantity_above k = zero_above n k x (and_right _ _ ok)
