-- Quantities within their ranges break none of rules 11 to 13, at any position.
use Rattle.std.specs.Prelude.{◌≡◌, ◌+◌, ◌≤◌, ◌<◌}
use Rattle.laws.specs.Kit.{refl, sym, ◌∙◌, Bool, true, false, ℕ, arith, less, split, and_no_left, and_no_right, neg_false, is_equal, less_yes, less_no, less_false, upto_false}
use Rattle.laws.specs.Order.Laws.{first_on, along_agree}
use Rattle.paper.specs.Layout.{Block, quantity}
use Rattle.paper.specs.Ranges.{quantities_allowed}
use Rattle.paper.specs.Rules.{fine, number_of, ◌then◌, broken, over_positions, rule11, rule12, rule13, quantity_verdict}
use Rattle.facts.specs.Quantities.{quantity_within, quantity_above}
use Rattle.judge.proofs.Laws.Order.{along_fine}

none_broken : {a b c : Bool} (s p : ℕ) → a ≡ false → b ≡ false → c ≡ false → (broken a 11 s p then broken b 12 s p then broken c 13 s p) ≡ fine
unfolding broken ◌then◌
none_broken s p e f g = rw (e, f, g) (first_on number_of fine _ refl ∙ first_on number_of fine _ refl)

module _ (n s : ℕ) (y : Block) (ok : quantities_allowed n y ≡ true) where
  no_refusal : (k : ℕ) → k < 100 → quantity_verdict n s y k ≡ fine
  unfolding quantity_verdict rule11 rule12 rule13
  no_refusal k h = split (less k n)
      (λ t. let l : quantity y k ≤ 9999999 = quantity_within n y ok k (less_yes _ _ t) in
      none_broken s (k + 1) (and_no_right _ _ (upto_false 2147483648 (quantity y k) (omega (arith, l)))) (and_no_right _ _ (less_false 9999999 (quantity y k) l))
      (and_no_left _ _ (upto_false n k (less_yes _ _ t))))
      (λ t. none_broken s (k + 1) (and_no_left _ _ t) (and_no_left _ _ t) (and_no_right _ _ (neg_false _ (is_equal _ 0 (quantity_above n y ok k (less_no _ _ t) h)))))

  pub all_allowed : fine ≡ over_positions (quantity_verdict n s y)
  unfolding over_positions
  all_allowed = sym (along_agree number_of fine (quantity_verdict n s y) (λ p. fine) 100 0 (λ p low high. no_refusal p high) ∙ along_fine 100 0)
