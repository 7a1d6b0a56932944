-- The first element that passes p. What f makes of the rest takes no account of those that do not pass; of none it makes z.
use Rattle.std.specs.Prelude.{◌≡◌, Bool, true, false, length, drop, get_or}
use Rattle.std.proofs.Common.{sym, ◌∙◌, add-zero, add-one, drop-cons}
use Rattle.std.proofs.Math.Path.{ap}
use mathlib.Core.List.{List, [], ◌∷◌}
use Prim.Native.Nat.{ℕ, suc, ◌+◌, ◌<◌}
use native.Mathlib.Omega.{arith}
use Rattle.laws.specs.Tests.Laws.{split}
use Rattle.laws.specs.Loops.{Step, place_from}

pub record Skips {X R : Type 0} (p : X → Bool) (f : ℕ → List X → R) (z : R) : Type 0 where
  pub skip : (k : ℕ) (x : X) (xs : List X) → p x ≡ false → f k (x ∷ xs) ≡ f (k + 1) xs
  pub empty : (k : ℕ) → f k [] ≡ z

module _ {X R : Type 0} (p : X → Bool) (f : ℕ → List X → R) (z : R) (s : Skips p f z) where
  pub none_passes : (t : ℕ) (r : List X) → 0 ≡ place_from t p r → f t r ≡ z
  unfolding place_from
  none_passes t [] e = s.empty t
  none_passes t (x ∷ xs) e = split (p x) (λ u. absurd (let y : 0 ≡ t + 1 = rw u at e in omega arith)) (λ u. s.skip t x xs u ∙ none_passes (t + 1) xs (rw u at e))

  pub first_passes : (d : X) (t : ℕ) (r : List X) (n : ℕ) → suc n ≡ place_from t p r → (m : ℕ) × (n ≡ t + m) × (m < length r) × (p (get_or r m d) ≡ true) × (f t r ≡ f (t + m) (drop m r))
  unfolding place_from
  first_passes d t [] n e = absurd (omega arith)
  first_passes d t (x ∷ xs) n e = split (p x)
      (λ u. let y : suc n ≡ t + 1 = rw u at e in (0, omega arith, omega arith, u, ap (λ k. f k (x ∷ xs)) (sym (add-zero t))))
      (λ u.
      let h = first_passes d (t + 1) xs n (rw u at e) in
      let m : ℕ = h.0 in
      let k : t + 1 + m ≡ t + suc m = omega arith in
      (suc m, omega (arith, h.1), omega (arith, h.2), h.3, s.skip t x xs u ∙ h.4 ∙ ap (λ j. f j (drop m xs)) k))

-- the turn of a loop at i, where i is inside
pub step_at : {X : Type 0} (d : X) (l : List X) (i : ℕ) → i < length l → Step l i (get_or l i d)
step_at d l i h = record { rest = drop-cons l i d h ∙ ap (λ k. get_or l i d ∷ drop k l) (sym (add-one i)) }
