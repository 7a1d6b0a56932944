-- What a key tells of a series: its bytes hold business type, contract type, areas, parties and agreement, so that two series with one key agree in each of these.
-- Between two trades of one area the key says no more than the parties.
use Rattle.std.specs.Prelude.{◌≡◌, ◌∷◌, ◌++◌, ◌+◌, ◌≤◌, ◌<◌}
use Rattle.laws.specs.Base.{refl, sym, ap, ap₂, ◌∙◌, true, false, cond, some, none, [], append-nil, ℕ, zero, suc, arith, length, take, drop, drop_at, take_at, take_all, take-nil, drop_of_length-le}
use Rattle.laws.specs.Tests.{◌and◌, ◌or◌, is, less}
use Rattle.laws.specs.Tests.Laws.{split, clash, or_no, is_yes, is_other, less_yes, less_no}
use Rattle.laws.specs.Lists.{same, All}
use Rattle.laws.specs.Lists.Each.{every_all}
use Rattle.laws.specs.Lists.Same.{same_yes, same_equal, same_split}
use Rattle.laws.specs.Bytes.{part, value, number}
use Rattle.laws.specs.Bytes.Laws.{part_length_most, part_length, part_part, part_add, number_part, number_1}
use Rattle.paper.specs.Layout.{Bytes, Block, zeros, business_type, contract_type, in_area, out_area, in_party, out_party, pair, agreement, key}
use Rattle.paper.specs.Book.{is_trade, with_capacity, is_external, key_is, trade}
use Rattle.paper.specs.Sound.{parties_of, one_area_ours, areas_allowed, type_allowed, capacity_named, capacity_allowed}

-- ---- the two parts of a key, of a block of any length: a block too short for the first has nothing of the second

none_behind : (x : Block) → length x < 6 → part 24 80 x ≡ []
unfolding part
none_behind x h = ap (take 80) (drop_of_length-le x {i = 24} (omega arith)) ∙ take-nil 80

pub key_front : (x : Block) → take 2 (key x) ≡ part 4 2 x
unfolding key
key_front x = split (less (length x) 6)
    (λ t. ap (λ z. take 2 (part 4 2 x ++ z)) (none_behind x (less_yes _ _ t)) ∙ ap (take 2) (append-nil (part 4 2 x)) ∙ take_all 2 (part 4 2 x) (part_length_most 4 2 x))
    (λ t. take_at (part 4 2 x) (part 24 80 x) 2 (part_length 4 2 x (omega (arith, less_no _ _ t))))

pub key_back : (x : Block) → drop 2 (key x) ≡ part 24 80 x
unfolding key
key_back x = split (less (length x) 6)
    (λ t.
    let n = none_behind x (less_yes _ _ t) in
    ap (λ z. drop 2 (part 4 2 x ++ z)) n ∙ ap (drop 2) (append-nil (part 4 2 x)) ∙ drop_of_length-le (part 4 2 x) {i = 2} (part_length_most 4 2 x) ∙ sym n)
    (λ t. drop_at (part 4 2 x) (part 24 80 x) 2 (part_length 4 2 x (omega (arith, less_no _ _ t))))

pub key_same : (a b : Block) → same (key a) (key b) ≡ (same (part 4 2 a) (part 4 2 b) and same (part 24 80 a) (part 24 80 b))
key_same a b = rw (same_split 2 (key a) (key b), key_front a, key_front b, key_back a, key_back b)

pub key_equal : (a b : Block) → part 4 2 a ≡ part 4 2 b → part 24 80 a ≡ part 24 80 b → key a ≡ key b
unfolding key
key_equal a b e f = ap₂ ◌++◌ e f

-- ---- a series by its key

pub key_is_yes : (k : Bytes) (b : Block) → key_is k b ≡ true → key b ≡ k
unfolding key_is
key_is_yes k b t = same_yes _ _ t

pub key_is_equal : (k : Bytes) (b : Block) → key b ≡ k → key_is k b ≡ true
unfolding key_is
key_is_equal k b e = same_equal _ _ e

-- ---- what two blocks with one key have in common

module _ (a b : Block) (e : key a ≡ key b) where
  key_types : part 4 2 a ≡ part 4 2 b
  key_types = sym (key_front a) ∙ ap (take 2) e ∙ key_front b

  key_fields : part 24 80 a ≡ part 24 80 b
  key_fields = sym (key_back a) ∙ ap (drop 2) e ∙ key_back b

  key_part : (o n : ℕ) → o + n ≤ 80 → part (24 + o) n a ≡ part (24 + o) n b
  key_part o n h = sym (part_part 24 80 o n a h) ∙ ap (part o n) key_fields ∙ part_part 24 80 o n b h

  key_number : (o : ℕ) → o + 1 ≤ 2 → number 1 (4 + o) a ≡ number 1 (4 + o) b
  key_number o h = sym (number_part 1 4 2 o a h) ∙ ap (number 1 o) key_types ∙ number_part 1 4 2 o b h

  pub key_business : business_type a ≡ business_type b
  unfolding business_type
  key_business = key_number 0 (omega arith)

  pub key_contract : contract_type a ≡ contract_type b
  unfolding contract_type
  key_contract = key_number 1 (omega arith)

  pub key_in_area : in_area a ≡ in_area b
  unfolding in_area
  key_in_area = key_part 0 16 (omega arith)

  pub key_out_area : out_area a ≡ out_area b
  unfolding out_area
  key_out_area = key_part 16 16 (omega arith)

  pub key_in_party : in_party a ≡ in_party b
  unfolding in_party
  key_in_party = key_part 32 16 (omega arith)

  pub key_out_party : out_party a ≡ out_party b
  unfolding out_party
  key_out_party = key_part 48 16 (omega arith)

  pub key_pair : pair a ≡ pair b
  unfolding pair
  key_pair = key_part 32 32 (omega arith)

  pub key_agreement : agreement a ≡ agreement b
  unfolding agreement
  key_agreement = key_part 64 16 (omega arith)

  -- in and out party and agreement, by which an index seeks
  pub key_parties_agreement : part 56 48 a ≡ part 56 48 b
  key_parties_agreement = key_part 32 48 (omega arith)

  pub key_is_trade : is_trade a ≡ is_trade b
  unfolding is_trade
  key_is_trade = ap (λ t. is t 2) key_business

  pub key_with_capacity : with_capacity a ≡ with_capacity b
  unfolding with_capacity
  key_with_capacity = ap (λ t. is t 3) key_business

  pub key_is_external : is_external a ≡ is_external b
  unfolding is_external with_capacity
  key_is_external = ap (λ t. is t 3 or is t 6) key_business

  pub key_trade : trade a ≡ trade b
  unfolding trade
  key_trade = ap₂ (λ t p. cond t (some p) none) key_is_trade key_pair

-- ---- and what soundness and rules 8 to 10 ask of these fields

module _ (a b : Block) (e : key a ≡ key b) where
  pub key_type_allowed : type_allowed a ≡ type_allowed b
  unfolding type_allowed
  key_type_allowed = ap₂ ◌or◌ (key_is_trade a b e) (key_is_external a b e)

  pub key_capacity_allowed : capacity_allowed a ≡ capacity_allowed b
  unfolding capacity_allowed capacity_named
  key_capacity_allowed = rw (key_with_capacity a b e, key_contract a b e, key_agreement a b e)

  pub key_areas_allowed : (ours : Bytes) → areas_allowed ours a ≡ areas_allowed ours b
  unfolding areas_allowed one_area_ours
  key_areas_allowed ours = rw (key_is_external a b e, key_in_area a b e, key_out_area a b e)

  pub key_parties : (s : Bytes) → parties_of (is_external a) s (pair a) ≡ parties_of (is_external b) s (pair b)
  key_parties s = ap₂ (λ x p. parties_of x s p) (key_is_external a b e) (key_pair a b e)

-- ---- the kinds of series exclude each other

pub trade_not_external : (b : Block) → is_trade b ≡ true → is_external b ≡ false
unfolding is_trade is_external with_capacity
trade_not_external b t = or_no _ _ (is_other _ _ (λ e. omega (arith, is_yes _ _ t))) (is_other _ _ (λ e. omega (arith, is_yes _ _ t)))

pub external_not_trade : (b : Block) → is_external b ≡ true → is_trade b ≡ false
external_not_trade b t = split (is_trade b) (λ u. clash t (trade_not_external b u)) (λ u. u)

-- ---- two trades with one pair, in one area, have one key

pub zeros_same : (u v : Bytes) → length u ≡ length v → zeros u ≡ true → zeros v ≡ true → u ≡ v
unfolding zeros
zeros_same u v l e f = by u v l (every_all _ u e) (every_all _ v f)
  where
    by : (u v : Bytes) → length u ≡ length v → All (λ x. is x 0 ≡ true) u → All (λ x. is x 0 ≡ true) v → u ≡ v
    by [] [] l h g = refl
    by [] (y ∷ ys) l h g = absurd (omega arith)
    by (x ∷ xs) [] l h g = absurd (omega arith)
    by (x ∷ xs) (y ∷ ys) l h g = ap₂ ◌∷◌ (is_yes _ _ h.0 ∙ sym (is_yes _ _ g.0)) (by xs ys (omega arith) h.1 g.1)

pub single : (o : ℕ) (a b : Block) → o + 1 ≤ length a → o + 1 ≤ length b → number 1 o a ≡ number 1 o b → part o 1 a ≡ part o 1 b
unfolding number value
single o a b h g e = by (part o 1 a) (part o 1 b) (part_length o 1 a h) (part_length o 1 b g) e
  where
    by : (u v : Bytes) → length u ≡ 1 → length v ≡ 1 → value u ≡ value v → u ≡ v
    by (x ∷ []) (y ∷ []) l m e = let q : x ≡ y = omega arith in ap (λ z. z ∷ []) q
    by [] v l m e = absurd (omega arith)
    by (x ∷ []) [] l m e = absurd (omega arith)
    by (x ∷ []) (y ∷ z ∷ v) l m e = absurd (omega arith)
    by (x ∷ w ∷ u) v l m e = absurd (omega arith)

-- what a trade's key holds beside its parties: type 2, no capacity, both areas ours
pub record Domestic (ours : Bytes) (x : Block) : Type 0 where
  pub whole : length x ≡ 512
  pub business : business_type x ≡ 2
  pub contract : contract_type x ≡ 0
  pub in_area_is : in_area x ≡ ours
  pub out_area_is : out_area x ≡ ours
  pub no_agreement : zeros (agreement x) ≡ true

pub domestic_key : (ours : Bytes) (a b : Block) → Domestic ours a → Domestic ours b → pair a ≡ pair b → key a ≡ key b
unfolding business_type contract_type in_area out_area pair agreement
domestic_key ours a b p q e = key_equal a b
    (rw (
      part_add 4 1 1 a,
      part_add 4 1 1 b,
      single 4 a b (omega (arith, p.whole)) (omega (arith, q.whole)) (p.business ∙ sym q.business),
      single 5 a b (omega (arith, p.whole)) (omega (arith, q.whole)) (p.contract ∙ sym q.contract),
    ))
    (rw (
      part_add 24 16 64 a,
      part_add 24 16 64 b,
      part_add 40 16 48 a,
      part_add 40 16 48 b,
      part_add 56 32 16 a,
      part_add 56 32 16 b,
      p.in_area_is,
      q.in_area_is,
      p.out_area_is,
      q.out_area_is,
      e,
      zeros_same (part 88 16 a) (part 88 16 b) (part_length 88 16 a (omega (arith, p.whole)) ∙ sym (part_length 88 16 b (omega (arith, q.whole)))) p.no_agreement q.no_agreement,
    ))
