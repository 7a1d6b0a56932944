-- Counts as the code makes them.
use Rattle.std.specs.Prelude.{◌≡◌, ◌∷◌, ◌+◌, ◌≤◌, count_by}
use Rattle.std.specs.List.{zip}
use Rattle.std.specs.Int.{from_bool}
use Rattle.std.proofs.lemmas.List.Sums.{sum_by-cons}
use Rattle.laws.specs.Kit.{refl, sym, ap, ◌∙◌, Bool, true, false, cond, not, List, [], ℕ, zero, suc, arith, length, get_or, ◌and◌, ◌or◌, neg, below, and_assoc}
use Rattle.laws.specs.Lists.{count, has}
use Rattle.paper.specs.Layout.{Block}
use Rattle.rules.specs.ByPlaces.{absent_by}

pub one_unless : (t : Bool) → from_bool (not t) ≡ cond t 0 1
one_unless true = refl
one_unless false = refl

one_more : (t : Bool) (n : ℕ) → cond t 1 0 + n ≡ cond t (suc n) n
one_more true n = omega arith
one_more false n = omega arith

pub counted : (p : ℕ → Bool) (l : List ℕ) → count_by p l ≡ count p l
unfolding count
counted p [] = refl
counted p (x ∷ l) = sum_by-cons (λ y. cond (p y) 1 0) x l ∙ ap (λ n. cond (p x) 1 0 + n) (counted p l) ∙ one_more (p x) (count p l)

-- ---- slots with their numbers beside them

yes_first : (a : Bool) → (true and a) ≡ (a and true)
unfolding ◌and◌
yes_first true = refl
yes_first false = refl

below_first : (p : ℕ → Bool) (n : ℕ) → below p (suc n) ≡ (p 0 and below (λ i. p (suc i)) n)
unfolding below
below_first p zero = yes_first (p 0)
below_first p (suc n) = ap (λ b. b and p (suc n)) (below_first p n) ∙ and_assoc (p 0) (below (λ i. p (suc i)) n) (p (suc n))

neg_each : (a b : Bool) → (a or neg b) ≡ neg (neg a and b)
unfolding ◌or◌ ◌and◌ neg
neg_each true b = refl
neg_each false b = refl

pub absent_beside : (slot : ℕ) (us : List Block) (ns : List ℕ) → length us ≤ length ns
    → has (λ p. absent_by slot p.1 p.0) (zip us ns) ≡ neg (below (λ i. neg (absent_by slot (get_or ns i 0) (get_or us i []))) (length us))
unfolding has below neg
absent_beside slot [] ns h = refl
absent_beside slot (x ∷ us) [] h = absurd (omega arith)
absent_beside slot (x ∷ us) (n ∷ ns) h =
    ap (λ b. absent_by slot n x or b) (absent_beside slot us ns (omega arith))
    ∙ neg_each (absent_by slot n x) (below (λ i. neg (absent_by slot (get_or ns i 0) (get_or us i []))) (length us))
    ∙ ap neg (sym (below_first (λ i. neg (absent_by slot (get_or (n ∷ ns) i 0) (get_or (x ∷ us) i []))) (length us)))
