-- Laws of the order of checks: one verdict before another, and rule 14 position by position.
use Rattle.std.specs.Prelude.{◌≡◌, ◌+◌, ◌-◌, ◌≤◌, ◌<◌, Result, Ok, Err}
use Rattle.laws.specs.Kit.{refl, sym, ap, ◌∙◌, Bool, true, false, ℕ, zero, suc, arith, ◌and◌, neg_no, neg_false, upto_yes, upto_true}
use Rattle.laws.specs.Order.{along}
use Rattle.laws.specs.Order.Laws.{first_on, first_stop, along_agree, along_start, along_go, along_hit, along_end}
use Rattle.paper.specs.declared.Verdict.{Verdict}
use Rattle.paper.specs.Layout.{Block}
use Rattle.paper.specs.Rules.{verdict_of, fine, number_of, ◌then◌, broken, broken_by, over_positions, is_open, closed, rule14, closed_verdict}
use Rattle.judge.specs.Order.{Gives}

-- ---- one verdict before another: v is found first, and w where v is no refusal

pub then_hit : {v a : Verdict} (b : Verdict) → v ≡ a → (v.number ≡ 0 → ⊥) → v ≡ (a then b)
unfolding ◌then◌
then_hit {v} {a} b e n = e ∙ sym (first_stop number_of a b (λ z. n (ap number_of e ∙ z)))

pub then_pass : {v a w b : Verdict} → v ≡ a → v.number ≡ 0 → w ≡ b → w ≡ (a then b)
unfolding ◌then◌
then_pass {a = a} {b = b} e n f = f ∙ sym (first_on number_of a b (sym (ap number_of e) ∙ n))

-- ---- what a check has found, as the code goes on from it

pub gives_fine : {T : Type 0} {u : T} {a : Verdict} → a ≡ fine → Gives (Ok u) a
gives_fine e = record { verdict = sym e; refusal = tt }

pub gives_refusal : {T : Type 0} {w a : Verdict} → w ≡ a → (number_of a ≡ 0 → ⊥) → Gives {T = T} (Err w) a
gives_refusal e n = record { verdict = e; refusal = λ z. n (sym (ap number_of e) ∙ z) }

pub gives_hit : {T U : Type 0} {r : Result T Verdict} {w a : Verdict} (b : Verdict) → Gives {T = U} (Err w) a → r ≡ Err w → Gives r (a then b)
gives_hit b g e = rw e (record { verdict = then_hit b g.verdict g.refusal; refusal = g.refusal })

pub gives_pass : {T U : Type 0} {r : Result T Verdict} {u : U} {a b : Verdict} → Gives (Ok u) a → Gives r b → Gives r (a then b)
gives_pass g h = record { verdict = then_pass {v = fine} g.verdict refl h.verdict; refusal = h.refusal }

-- the same, handed up with another value
pub gives_err : {T U : Type 0} {r : Result T Verdict} {w a : Verdict} → Gives {T = U} (Err w) a → r ≡ Err w → Gives r a
gives_err g e = rw e (record { verdict = g.verdict; refusal = g.refusal })

pub gives_ok : {T U : Type 0} {x : T} {u : U} {a : Verdict} → Gives (Ok u) a → Gives (Ok x) a
gives_ok g = record { verdict = g.verdict; refusal = tt }

-- a rule by the definition that its test has: the number is suc m
pub gives_by : (m s p : ℕ) {r : Result (Unit {0}) Verdict} {t u : Bool} → ((suc m ≡ 0 → ⊥) → Gives r (broken t (suc m) s p)) → t ≡ u → Gives r (broken u (suc m) s p)
gives_by m s p g e = rw e at (g (λ z. absurd (omega (arith, z))))

-- no refusal: the rule is kept
pub kept_by : (m s p : ℕ) {u : Unit {0}} {t : Bool} → ((suc m ≡ 0 → ⊥) → Gives (Ok u) (broken t (suc m) s p)) → t ≡ false
unfolding broken
kept_by m s p {t = true} g = absurd (let n : 0 ≡ suc m = ap number_of (g (λ z. absurd (omega (arith, z)))).verdict in omega arith)
kept_by m s p {t = false} g = refl

-- a rule that names a character: broken, or kept
pub character_named : {t u : Bool} (m series : ℕ) {v : Verdict} {k character : ℕ} → t ≡ u → t ≡ true → v ≡ verdict_of (suc m) series 0 k → k ≡ character
    → Gives {T = Unit {0}} (Err v) (broken_by u (suc m) series character)
unfolding broken_by
character_named m series e y f q =
    rw (sym e ∙ y) (gives_refusal (f ∙ rw q) (λ z. let n : suc m ≡ 0 = z in omega arith))

pub character_none : {t u : Bool} (number series character : ℕ) {o : Unit {0}} → t ≡ u → t ≡ false → Gives (Ok o) (broken_by u number series character)
unfolding broken_by
character_none number series character e n = gives_fine (rw (sym e ∙ n))

-- ---- over the positions: none below k is refused

module _ (at : ℕ → Verdict) where
  pub positions_start : over_positions at ≡ along number_of fine at (100 - 0) 0
  unfolding over_positions
  positions_start = along_start number_of fine at 100

  pub positions_go : {w : Verdict} {u : Unit {0}} (k : ℕ) → w ≡ along number_of fine at (100 - k) k → k < 100 → Gives (Ok u) (at k) → w ≡ along number_of fine at (100 - (k + 1)) (k + 1)
  positions_go k e h g = along_go number_of fine at 100 fine k e h g.verdict refl

  pub positions_hit : {r : Result (Unit {0}) Verdict} {w v : Verdict} (k : ℕ) → w ≡ along number_of fine at (100 - k) k → k < 100 → Gives {T = Unit {0}} (Err v) (at k) → r ≡ Err v → Gives r w
  positions_hit {v = v} k e h g q =
      let f : v ≡ _ = along_hit number_of fine at 100 v k e h g.verdict g.refusal in
      rw q (record { verdict = f; refusal = g.refusal })

  pub positions_end : {w : Verdict} {u : Unit {0}} (k : ℕ) → w ≡ along number_of fine at (100 - k) k → 100 ≤ k → Gives (Ok u) w
  positions_end k e h = gives_fine (sym (along_end number_of fine at 100 k e h))

-- ---- rule 14, position by position: past the first open one no position is closed

open_later : (d : Block) (k p : ℕ) → closed d (k + 1) ≡ false → k ≤ p → closed d (p + 1) ≡ false
unfolding closed is_open
open_later d k p e h = neg_false _ (upto_true _ _ (omega (arith, upto_yes _ _ (neg_no _ e))))

pub along_fine : (f k : ℕ) → along number_of fine (λ p. fine) f k ≡ fine
unfolding along
along_fine zero k = refl
along_fine (suc f) k = first_on number_of fine _ refl ∙ along_fine f (k + 1)

pub closed_rest : (d x : Block) (s : ℕ) (y : Block) (k : ℕ) {w : Verdict} → w ≡ along number_of fine (closed_verdict d x s y) (100 - k) k → closed d (k + 1) ≡ false → fine ≡ w
unfolding closed_verdict rule14 broken ◌and◌
closed_rest d x s y k e n =
    sym (e ∙ along_agree number_of fine (closed_verdict d x s y) (λ p. fine) (100 - k) k (λ p low high. rw (open_later d k p n low)) ∙ along_fine (100 - k) k)
