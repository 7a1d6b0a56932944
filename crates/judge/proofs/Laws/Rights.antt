-- Rules 18 and 19 by places: the right found is the one that the paper names, and of the series of a message those with its place are those on it.
use Rattle.std.specs.Prelude.{◌≡◌, ◌+◌, ◌≤◌, ◌<◌, Ok}
use Rattle.laws.specs.Kit.{refl, sym, ap, ap₂, ◌∙◌, Bool, true, false, cond, option_get_or, List, [], ℕ, zero, suc, arith, add-one, length, take, get_or, ◌and◌, neg, is, less, split, clash, and_left, and_right, and_both, and_no_left, neg_true, is_yes, is_no, is_equal, is_other, is_same}
use Rattle.laws.specs.Lists.{place, total}
use Rattle.laws.specs.Lists.Same.{same_yes}
use Rattle.laws.specs.Lists.Each.{all_each}
use Rattle.laws.specs.Lists.Search.{has_agree, has_keep_and, find_agree, find_keep_and, place_is_0, place_is_not_0, place_agree}
use Rattle.laws.specs.Lists.Count.{total_more}
use Rattle.laws.specs.Order.Laws.{first_stop, along_agree}
use Rattle.paper.specs.declared.Verdict.{Verdict}
use Rattle.paper.specs.Layout.{Bytes, Block, in_area, out_area, contract_type, agreement, quantity, limit}
use Rattle.paper.specs.Book.{with_capacity, numbered, is_right_of, own_rights}
use Rattle.paper.specs.Rules.{fine, number_of, ◌then◌, broken, over_positions, names, rule18, right_for, sum_on, rule19, limit_verdict, right_verdict}
use Rattle.facts.specs.Book.{numbered_found, numbered_place}
use Rattle.index.specs.Rights.{is_right_for, FoundRights}
use Rattle.rules.specs.ByPlaces.{rule18_by, rule19_by}
use Rattle.judge.specs.Sums.{sum_to, SumsTo}
use Rattle.judge.specs.Order.{Gives, limit_by, right_by}
use Rattle.judge.proofs.Laws.Order.{gives_fine, gives_pass, along_fine}

-- ---- the verdict by the code's branches

positions_agree : (a b : ℕ → Verdict) → ((k : ℕ) → k < 100 → a k ≡ b k) → over_positions a ≡ over_positions b
unfolding over_positions
positions_agree a b g = along_agree number_of fine a b 100 0 (λ p low high. g p high)

none_refused : (a : ℕ → Verdict) → ((k : ℕ) → a k ≡ fine) → over_positions a ≡ fine
unfolding over_positions
none_refused a g = along_agree number_of fine a (λ p. fine) 100 0 (λ p low high. g p) ∙ along_fine 100 0

pub right_none : (n : ℕ) (us : List Block) (right : ℕ) (sums : List ℕ) (s : ℕ) (y : Block) {o : Unit {0}} → with_capacity y ≡ false → Gives (Ok o) (right_by n us right sums s y)
unfolding right_by rule18_by limit_by rule19_by broken
right_none n us right sums s y t =
    gives_pass (gives_fine {u = tt {0}} (rw (and_no_left (with_capacity y) (is right 0) t)))
    (gives_fine (none_refused _ (λ k. rw (and_no_left _ (less (limit (numbered us right) k) (get_or sums k 0)) (and_no_left (with_capacity y) (less k n) t)))))

-- ---- which series are on one right

names_alike : (z y r : Block) → names z r ≡ true → names y r ≡ true → (x : Block) → names z x ≡ names y x
unfolding names
names_alike z y r s t x =
    let a : in_area z ≡ in_area y = same_yes _ _ (and_left _ _ (and_left _ _ (and_left _ _ s))) ∙ sym (same_yes _ _ (and_left _ _ (and_left _ _ (and_left _ _ t)))) in
    let b : out_area z ≡ out_area y = same_yes _ _ (and_right _ _ (and_left _ _ (and_left _ _ s))) ∙ sym (same_yes _ _ (and_right _ _ (and_left _ _ (and_left _ _ t)))) in
    let c : contract_type z ≡ contract_type y = is_yes _ _ (and_right _ _ (and_left _ _ s)) ∙ sym (is_yes _ _ (and_right _ _ (and_left _ _ t))) in
    let d : agreement z ≡ agreement y = same_yes _ _ (and_right _ _ s) ∙ sym (same_yes _ _ (and_right _ _ t)) in
    rw (a, b, c, d)

-- ---- a refusal ends it

then_cut : (a b c : Verdict) → (number_of a ≡ 0 → ⊥) → (a then b) ≡ (a then c)
unfolding ◌then◌
then_cut a b c n = first_stop number_of a b n ∙ sym (first_stop number_of a c n)

refusal : {t : Bool} (m s p : ℕ) → t ≡ true → number_of (broken t (suc m) s p) ≡ 0 → ⊥
unfolding broken
refusal m s p e z = let q : suc m ≡ 0 = rw e at z in omega arith

module _ (e : Bytes) (us : List Block) where
  -- the right of y is one that y is on
  right_is : (y : Block) → (place (is_right_for e y) us ≡ 0 → ⊥) → (with_capacity y and names y (numbered us (place (is_right_for e y) us))) ≡ true
  unfolding is_right_for
  right_is y n = and_right _ _ (numbered_place (is_right_for e y) us (sym (place_is_not_0 (is_right_for e y) us) ∙ neg_true _ (is_other _ 0 n)))

  alike : (z y r : Block) → (with_capacity z and names z r) ≡ true → (with_capacity y and names y r) ≡ true → (x : Block) → is_right_for e z x ≡ is_right_for e y x
  unfolding is_right_for
  alike z y r t u x = rw (and_left _ _ t, and_left _ _ u, names_alike z y r (and_right _ _ t) (and_right _ _ u) x)

  on_right : (z y : Block) → (place (is_right_for e y) us ≡ 0 → ⊥)
      → is (place (is_right_for e z) us) (place (is_right_for e y) us) ≡ (with_capacity z and names z (numbered us (place (is_right_for e y) us)))
  on_right z y n = split (with_capacity z and names z (numbered us (place (is_right_for e y) us)))
      (λ t. is_equal _ _ (place_agree _ _ us (all_each _ (alike z y _ t (right_is y n)) us)) ∙ sym t)
      (λ t. is_other _ _ (λ q. clash (rw q at (right_is z (λ w. n (sym q ∙ w)))) t) ∙ sym t)

-- ---- the rules, of series i + 1

module _ (e : Bytes) (us series : List Block) (rights : List ℕ) (f : FoundRights e us series rights) (i : ℕ) (h : i < length series) where
  abbrev y : Block
  y = get_or series i []

  abbrev right : ℕ
  right = get_or rights i 0

  sum_on_lem : (right ≡ 0 → ⊥) → (k j : ℕ) → j ≤ length series → sum_to rights series right j k ≡ sum_on (numbered us right) (take j series) k
  unfolding sum_to sum_on total
  sum_on_lem n k zero l = refl
  sum_on_lem n k (suc j) l =
      let m : j < length series = omega arith in
      ap₂ ◌+◌ (sum_on_lem n k j (omega arith))
      (ap (λ t. cond t (quantity (get_or series j []) k) 0)
      (ap₂ is (f.each j m) (f.each i h) ∙ on_right e us (get_or series j []) y (λ q. n (f.each i h ∙ q)) ∙ ap (λ p. with_capacity (get_or series j []) and names (get_or series j []) (numbered us p)) (sym (f.each i h))))
      ∙ sym (total_more (λ z. cond (with_capacity z and names z (numbered us right)) (quantity z k) 0) series j [] m)
      ∙ ap (λ p. total (λ z. cond (with_capacity z and names z (numbered us right)) (quantity z k) 0) (take p series)) (add-one j)

  sum_with : (right ≡ 0 → ⊥) → (sums : List ℕ) → SumsTo rights series right (i + 1) sums → (k : ℕ) → k < 100 → get_or sums k 0 ≡ sum_on (numbered us right) (take i series) k + quantity y k
  unfolding SumsTo sum_to
  sum_with n sums s k c = s k c ∙ rw (add-one i, is_same right) (ap (λ t. t + quantity y k) (sum_on_lem n k i (omega arith)))

  module _ (t : with_capacity y ≡ true) where
    for_y : (x : Block) → is_right_for e y x ≡ (is_right_of e x and names y x)
    unfolding is_right_for ◌and◌
    for_y x = rw t

    rule_18_found : rule18_by y right ≡ rule18 (own_rights us e) y
    unfolding rule18_by rule18 own_rights
    rule_18_found =
        ap (λ b. with_capacity y and b)
        (ap (λ p. is p 0) (f.each i h) ∙ place_is_0 (is_right_for e y) us ∙ ap neg (has_agree _ _ us (all_each _ for_y us) ∙ sym (has_keep_and (names y) (is_right_of e) us)))

    right_found : numbered us right ≡ right_for (own_rights us e) y
    unfolding right_for own_rights
    right_found =
        ap (numbered us) (f.each i h) ∙ numbered_found (is_right_for e y) us
        ∙ ap (λ o. option_get_or o []) (find_agree _ _ us (all_each _ for_y us) ∙ sym (find_keep_and (names y) (is_right_of e) us))

  module _ (n s : ℕ) (sums : List ℕ) where
    limit_found : with_capacity y ≡ true → (right ≡ 0 → ⊥) → SumsTo rights series right (i + 1) sums → (k : ℕ) → k < 100
        → limit_by n (numbered us right) sums s y k ≡ limit_verdict n (right_for (own_rights us e) y) (take i series) s y k
    unfolding limit_by limit_verdict rule19_by rule19
    limit_found t z q k c = rw (← right_found t, sum_with z sums q k c)

    limit_none : with_capacity y ≡ false → (k : ℕ) → limit_by n (numbered us right) sums s y k ≡ limit_verdict n (right_for (own_rights us e) y) (take i series) s y k
    unfolding limit_by limit_verdict rule19_by rule19 ◌and◌
    limit_none t k = rw t

    rule_18_none : with_capacity y ≡ false → rule18_by y right ≡ rule18 (own_rights us e) y
    unfolding rule18_by rule18 ◌and◌
    rule_18_none t = rw t

    rule_18_yes : with_capacity y ≡ true → right ≡ 0 → rule18_by y right ≡ true
    unfolding rule18_by
    rule_18_yes t z = and_both _ _ t (is_equal _ _ z)

    pub rights_found : ((right ≡ 0 → ⊥) → SumsTo rights series right (i + 1) sums) → right_by n us right sums s y ≡ right_verdict n (own_rights us e) (take i series) s y
    unfolding right_by right_verdict
    rights_found q =
        split (with_capacity y)
        (λ t.
        let a = rule_18_found t in
        split (is right 0)
        (λ z. ap (λ b. broken b 18 s 0 then over_positions (limit_by n (numbered us right) sums s y)) a ∙ then_cut _ _ _ (refusal 17 s 0 (sym a ∙ rule_18_yes t (is_yes _ _ z))))
        (λ z. ap₂ ◌then◌ (ap (λ b. broken b 18 s 0) a) (positions_agree _ _ (limit_found t (is_no _ _ z) (q (is_no _ _ z))))))
        (λ t. ap₂ ◌then◌ (ap (λ b. broken b 18 s 0) (rule_18_none t)) (positions_agree _ _ (λ k c. limit_none t k)))
