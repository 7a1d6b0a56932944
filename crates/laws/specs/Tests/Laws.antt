-- Laws of tests: what a test says of its parts, and how a test is made true or false.
use Rattle.laws.specs.Base.{refl, sym, ap, ◌∙◌, Bool, true, false, cond, not, false≢true, true≢false, ℕ, zero, suc, add-one, arith}
use Rattle.std.specs.Prelude.{◌⊎◌, ◌≡◌, ◌+◌, ◌≤◌, ◌<◌}
use Rattle.std.proofs.Common.{inl, inr, ltb-true, ltb-false, leb-true, leb-false, eqb-true, lt-ltb, le-ltb, le-leb, eq-eqb, ne_eqb}
use Rattle.std.proofs.lemmas.Bool.{not-true, not-false, eqb-false, lt-leb}
use Rattle.laws.specs.Tests.{◌and◌, ◌or◌, neg, is, less, upto, below}

-- ---- any test

-- a test is true or false, with the equation
pub split {ℓ} : {X : Type ℓ} (b : Bool) → (b ≡ true → X) → (b ≡ false → X) → X
split true f g = f refl
split false f g = g refl

pub clash {ℓ} : {X : Type ℓ} {b : Bool} → b ≡ true → b ≡ false → X
clash p q = absurd (true≢false (sym p ∙ q))

-- what a call found, s, of the test t, past a branch on it
pub told : {s t : Bool} → s ≡ t → not s ≡ false → t ≡ true
told {s} e h = sym e ∙ not-false s h

pub denied : {s t : Bool} → s ≡ t → not s ≡ true → t ≡ false
denied {s} e h = sym e ∙ not-true s h

-- a function of a choice is a choice of its values
pub cond_apply {ℓ κ} : {X : Type ℓ} {Y : Type κ} (f : X → Y) (b : Bool) (x y : X) → f (cond b x y) ≡ cond b (f x) (f y)
cond_apply f true x y = refl
cond_apply f false x y = refl

-- ---- and

pub and_left : (a b : Bool) → (a and b) ≡ true → a ≡ true
unfolding ◌and◌
and_left true b e = refl
and_left false b e = absurd (false≢true e)

pub and_right : (a b : Bool) → (a and b) ≡ true → b ≡ true
unfolding ◌and◌
and_right true b e = e
and_right false b e = absurd (false≢true e)

pub and_both : (a b : Bool) → a ≡ true → b ≡ true → (a and b) ≡ true
unfolding ◌and◌
and_both a b e f = rw (e, f)

pub and_no : (a b : Bool) → (a and b) ≡ false → a ≡ true → b ≡ false
unfolding ◌and◌
and_no a b e f = rw f at e

pub and_no_left : (a b : Bool) → a ≡ false → (a and b) ≡ false
unfolding ◌and◌
and_no_left a b e = rw e

pub and_no_right : (a b : Bool) → b ≡ false → (a and b) ≡ false
unfolding ◌and◌
and_no_right true b e = e
and_no_right false b e = refl

-- two tests that agree where a third holds
pub and_agree : (a b c : Bool) → (c ≡ true → a ≡ b) → (a and c) ≡ (b and c)
and_agree a b c f = split c (λ t. ap (λ z. z and c) (f t)) (λ t. and_no_right a c t ∙ sym (and_no_right b c t))

pub and_true : (a : Bool) → (a and true) ≡ a
unfolding ◌and◌
and_true true = refl
and_true false = refl

pub and_assoc : (a b c : Bool) → (a and b and c) ≡ (a and (b and c))
unfolding ◌and◌
and_assoc true b c = refl
and_assoc false b c = refl

-- ---- or

pub or_left : (a b : Bool) → (a or b) ≡ false → a ≡ false
unfolding ◌or◌
or_left true b e = e
or_left false b e = refl

pub or_right : (a b : Bool) → (a or b) ≡ false → b ≡ false
unfolding ◌or◌
or_right true b e = absurd (true≢false e)
or_right false b e = e

pub or_no : (a b : Bool) → a ≡ false → b ≡ false → (a or b) ≡ false
unfolding ◌or◌
or_no a b e f = rw (e, f)

pub or_yes_left : (a b : Bool) → a ≡ true → (a or b) ≡ true
unfolding ◌or◌
or_yes_left a b e = rw e

pub or_yes_right : (a b : Bool) → b ≡ true → (a or b) ≡ true
unfolding ◌or◌
or_yes_right true b e = refl
or_yes_right false b e = e

pub or_else : (a b : Bool) → (a or b) ≡ true → a ≡ false → b ≡ true
unfolding ◌or◌
or_else a b e f = rw f at e

pub or_false : (a : Bool) → (a or false) ≡ a
unfolding ◌or◌
or_false true = refl
or_false false = refl

pub or_exchange : (a b c d : Bool) → ((a or b) or (c or d)) ≡ ((a or c) or (b or d))
unfolding ◌or◌
or_exchange true b c d = refl
or_exchange false true true d = refl
or_exchange false true false d = refl
or_exchange false false c d = refl

-- ---- neg

pub neg_yes : (a : Bool) → neg a ≡ true → a ≡ false
unfolding neg
neg_yes a e = not-true a e

pub neg_no : (a : Bool) → neg a ≡ false → a ≡ true
unfolding neg
neg_no a e = not-false a e

pub neg_true : (a : Bool) → a ≡ false → neg a ≡ true
unfolding neg
neg_true a e = rw e

pub neg_false : (a : Bool) → a ≡ true → neg a ≡ false
unfolding neg
neg_false a e = rw e

pub neg_both : (a b : Bool) → (neg a and neg b) ≡ neg (b or a)
unfolding neg ◌and◌ ◌or◌
neg_both true true = refl
neg_both true false = refl
neg_both false true = refl
neg_both false false = refl

pub neg_and_neg : (a b : Bool) → neg (a and neg b) ≡ (neg a or b)
unfolding neg ◌and◌ ◌or◌
neg_and_neg true true = refl
neg_and_neg true false = refl
neg_and_neg false b = refl

pub neg_or_neg : (a b : Bool) → neg (neg a or neg b) ≡ (a and b)
unfolding neg ◌or◌ ◌and◌
neg_or_neg true true = refl
neg_or_neg true false = refl
neg_or_neg false b = refl

-- ---- numbers compared: -yes and -no from the test, -true and -false to it

pub is_yes : (a b : ℕ) → is a b ≡ true → a ≡ b
unfolding is
is_yes a b e = eqb-true a b e

pub is_no : (a b : ℕ) → is a b ≡ false → a ≡ b → ⊥
unfolding is
is_no a b e = eqb-false a b e

pub is_equal : (a b : ℕ) → a ≡ b → is a b ≡ true
unfolding is
is_equal a b e = eq-eqb a b e

pub is_same : (a : ℕ) → is a a ≡ true
is_same a = is_equal a a refl

pub is_other : (a b : ℕ) → (a ≡ b → ⊥) → is a b ≡ false
unfolding is
is_other a b f = ne_eqb a b f

pub less_yes : (a b : ℕ) → less a b ≡ true → a < b
unfolding less
less_yes a b e = ltb-true a b e

pub less_no : (a b : ℕ) → less a b ≡ false → b ≤ a
unfolding less
less_no a b e = ltb-false a b e

pub less_true : (a b : ℕ) → a < b → less a b ≡ true
unfolding less
less_true a b h = lt-ltb a b h

pub less_false : (a b : ℕ) → b ≤ a → less a b ≡ false
unfolding less
less_false a b h = le-ltb a b h

pub upto_yes : (a b : ℕ) → upto a b ≡ true → a ≤ b
unfolding upto
upto_yes a b e = leb-true a b e

pub upto_no : (a b : ℕ) → upto a b ≡ false → b < a
unfolding upto
upto_no a b e = leb-false a b e

pub upto_true : (a b : ℕ) → a ≤ b → upto a b ≡ true
unfolding upto
upto_true a b h = le-leb a b h

pub upto_false : (a b : ℕ) → b < a → upto a b ≡ false
unfolding upto
upto_false a b h = lt-leb a b h

-- one of two orders, as a value
pub lt_or : (m n : ℕ) → (m < n) ⊎ (n ≤ m)
lt_or m n = split (less m n) (λ e. inl (less_yes m n e)) (λ e. inr (less_no m n e))

-- ---- below

pub below_more : (p : ℕ → Bool) (n : ℕ) → below p (n + 1) ≡ (below p n and p n)
unfolding below
below_more p n = rw add-one

pub below_each : (p : ℕ → Bool) (n : ℕ) → ((k : ℕ) → k < n → p k ≡ true) → below p n ≡ true
unfolding below
below_each p zero f = refl
below_each p (suc n) f = and_both _ _ (below_each p n (λ k h. f k (omega arith))) (f n (omega arith))

pub below_at : (p : ℕ → Bool) (n k : ℕ) → below p n ≡ true → k < n → p k ≡ true
unfolding below
below_at p zero k e h = absurd (omega arith)
below_at p (suc n) k e h = split (less k n)
    (λ t. below_at p n k (and_left _ _ e) (less_yes _ _ t))
    (λ t. let q : k ≡ n = omega (arith, less_no _ _ t) in rw q (and_right _ _ e))

-- tests that agree below n
pub below_agree : (p q : ℕ → Bool) (n : ℕ) → ((k : ℕ) → k < n → p k ≡ q k) → below p n ≡ below q n
unfolding below
below_agree p q zero f = refl
below_agree p q (suc n) f = rw (below_agree p q n (λ k h. f k (omega arith)), f n (omega arith))
