-- The refusals of a final value in their order, and the value past them.
use Rattle.std.specs.Prelude.{◌≡◌, ◌-◌, ◌≤◌, ◌<◌, Result, Ok, Err}
use Rattle.laws.specs.Kit.{true, false, List, ℕ, ◌or◌, neg, is, less, split, is_equal, is_other, less_true, less_false}
use Rattle.laws.specs.Bytes.{part}
use Rattle.paper.specs.declared.FinalAnswer.{FinalAnswer}
use Rattle.paper.specs.Layout.{Bytes, Block, n_of, rule_of}
use Rattle.paper.specs.Book.{day_block, used}
use Rattle.paper.specs.Sound.{sound}
use Rattle.paper.specs.Rules.{closed}
use Rattle.paper.specs.Finals.{final_refused, final_in, final}
use Rattle.readings.specs.Held.{final_held}
use Rattle.readings.specs.Closed.{number_of, closed_index}
use Rattle.readings.specs.declared.finals.NoFinals.{NoFinals}
use Rattle.readings.specs.declared.finals.NoFinals.TheVariants.{NoPosition, StillOpen}

module _ (d : Block) (p : ℕ) where
  pub no_position : p ≡ 0 → Err NoPosition ≡ closed_index d p
  unfolding closed_index ◌or◌
  no_position e = rw (is_equal p 0 e)

  module _ (n : p ≡ 0 → ⊥) where
    pub above_n_lem : n_of d < p → Err NoPosition ≡ closed_index d p
    unfolding closed_index ◌or◌
    above_n_lem h = rw (is_other p 0 n, less_true (n_of d) p h)

    module _ (h : p ≤ n_of d) where
      pub still_open : closed d p ≡ false → Err StillOpen ≡ closed_index d p
      unfolding closed_index ◌or◌ neg
      still_open e = rw (is_other p 0 n, less_false (n_of d) p h, e)

      pub is_closed : closed d p ≡ true → Ok (p - 1) ≡ closed_index d p
      unfolding closed_index ◌or◌ neg
      is_closed e = rw (is_other p 0 n, less_false (n_of d) p h, e)

module _ (d : Block) (us : List Block) (seller buyer : Bytes) where
  abbrev pub final_by : Result ℕ NoFinals → FinalAnswer
  final_by (Ok k) = final_held (rule_of d) us seller buyer k
  final_by (Err why) = final_refused (number_of why)

  pub final_by_index : (p : ℕ) → final_by (closed_index d p) ≡ final_in d us seller buyer p
  unfolding closed_index final_in final_held neg
  final_by_index p = split (is p 0 or less (n_of d) p) (λ t. rw t) (λ t. split (closed d p) (λ u. rw (t, u)) (λ u. rw (t, u)))

module _ (book seller buyer : Bytes) (p : ℕ) where
  pub final_unsound : sound book ≡ false → final_refused 1 ≡ final book seller buyer p
  unfolding final
  final_unsound e = rw e

  pub final_sound : sound book ≡ true → {d : Block} {us : List Block} {r : FinalAnswer} → d ≡ part 0 512 book → us ≡ used book → r ≡ final_in d us seller buyer p → r ≡ final book seller buyer p
  unfolding final day_block part
  final_sound e f g q = rw (e, ← f, ← g) q
