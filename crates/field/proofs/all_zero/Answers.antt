-- Whether the largest so far is 0, with the test of the bytes left, is the test of all.
use Rattle.std.specs.Prelude.{◌≡◌, ◌<◌, ◌≤◌, max}
use Rattle.laws.specs.Kit.{arith, sym, refl, ℕ, ◌∙◌, ap, step_byte, end_list, ◌and◌, is, split, is_equal, is_yes, is_no, is_other, every_start, every_go, every_end}
use Rattle.paper.specs.Layout.{zeros}
use Rattle.field.proofs.all_zero.Goals as goal

-- the larger of two is 0 exactly where both are
both_zero : (a b : ℕ) → is (max a b) 0 ≡ (is a 0 and is b 0)
unfolding ◌and◌
both_zero a b = split (is a 0)
    (λ u. split (is b 0) (λ v. rw (u, v) (is_equal _ 0 (omega (arith, is_yes a 0 u, is_yes b 0 v)))) (λ v. rw (u, v) (is_other _ 0 (λ z. is_no b 0 v (omega arith)))))
    (λ u. rw u (is_other _ 0 (λ z. is_no a 0 u (omega arith))))

pub loop-x-init : goal.loop-x-init
unfolding is
loop-x-init c = every_start _ _

pub loop-x-preserved : goal.loop-x-preserved
unfolding ◌and◌
loop-x-preserved c =
    rw (c.max-most.ensures, both_zero c.loop-x.most _) (every_go (λ x. is x 0) (is c.loop-x.most 0) c.loop-x.invariant (step_byte _ _ c.loop-x-test.true) refl)

pub returns : goal.returns
unfolding zeros is
returns c = every_end _ _ c.loop-x.invariant (end_list _ _ c.loop-x-test.false)
